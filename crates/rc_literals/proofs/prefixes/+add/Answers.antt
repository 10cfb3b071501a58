use Rattle.std.proofs.Common.{◌∙◌, ◌+◌, ap, drop, subst, sym, arith, IfOk}
use Rattle.rc_literals.specs.Extraction.{Extends, first_bytes, greatest_count, grown}
use Rattle.rc_needles.specs.Tables.{needles_in}
use Rattle.std.proofs.lemmas.Bool.Decides.{nat_tests}
use Rattle.rc_pattern.specs.Meaning.{meaning}
use Rattle.rc_literals.proofs.ExtractionLemmas.{concat_first, concat_none, rest_taken, each_alt, turn_failed, turn_taken, turns_done}
use Rattle.rc_literals.proofs.prefixes.+add.Goals as goal

pub add-returns-in-Some : goal.add-returns-in-Some
add-returns-in-Some t c =
    let n = c.still_count-count.result in
    subst (λ found. IfOk c.add_begun.result (λ done. Extends greatest_count done (needles_in c.args.list.now.items) (needles_in c.add_begun.new.list.items) found))
    (concat_first c.args.hir.now c.kind.result.now c.in-Concat.subs c.kind.ensures.value c.in-Concat.is c.deref-in-Concat.result.now
    c.deref-in-Concat-2.result.now _ n c.in-Some.first.now c.in-Some.first.now
    c.deref-in-Concat.ensures.value c.deref-in-Concat-2.ensures.value
    (rest_taken c.deref-in-Some.result.now (n + 1) ∙ ap (drop (n + 1)) (c.deref-in-Some.ensures.value ∙ sym c.deref-in-Concat.ensures.value))
    c.still_count-count.ensures.first
    (let e = c.in-Some.ensures.lookup.0 in grind (arith, nat_tests)) c.in-Some.ensures.lookup.1)
    c.add_begun.ensures

pub add-returns-in-None : goal.add-returns-in-None
add-returns-in-None t c =
    ap (grown greatest_count (needles_in c.args.list.now.items))
    (concat_none c.args.hir.now c.kind.result.now c.in-Concat.subs c.kind.ensures.value c.in-Concat.is c.deref-in-Concat.result.now
    c.deref-in-Concat-2.result.now c.still_count-count.result c.deref-in-Concat.ensures.value c.deref-in-Concat-2.ensures.value
    c.still_count-count.ensures.none (let e = c.in-None.ensures.lookup.0 in grind (arith, nat_tests)))

pub add_alternation-returns-then-not-branch : goal.add_alternation-returns-then-not-branch
add_alternation-returns-then-not-branch t c =
    let begun = needles_in c.args.list.now.items in
    let old = needles_in c.loop-sub.list.items in
    let new = needles_in c.add.new.list.items in
    ap (grown greatest_count begun) (sym (each_alt c.args.subs.now))
    ∙ turn_failed greatest_count (λ h. first_bytes (meaning h)) begun old new c.args.subs.now c.loop-sub.sub-index c.sub-item.result _ _ c.loop-sub-test.true c.sub-item.is
    c.loop-sub.invariant c.in_ok-add.ensures c.if-not-branch.true

pub add_alternation-loop-sub-preserved : goal.add_alternation-loop-sub-preserved
add_alternation-loop-sub-preserved t c =
    let begun = needles_in c.args.list.now.items in
    let old = needles_in c.loop-sub.list.items in
    let new = needles_in c.add.new.list.items in
    turn_taken greatest_count (λ h. first_bytes (meaning h)) begun old new c.args.subs.now c.loop-sub.sub-index c.sub-item.result _ _ c.loop-sub-test.true c.sub-item.is
    c.loop-sub.invariant c.in_ok-add.ensures c.if-not-branch.false

pub add_alternation-returns : goal.add_alternation-returns
add_alternation-returns t c =
    let begun = needles_in c.args.list.now.items in
    ap (grown greatest_count begun) (sym (each_alt c.args.subs.now))
    ∙ turns_done greatest_count (λ h. first_bytes (meaning h)) begun (needles_in c.loop-sub.list.items) c.args.subs.now c.loop-sub.sub-index c.loop-sub-test.false
    c.loop-sub.invariant
