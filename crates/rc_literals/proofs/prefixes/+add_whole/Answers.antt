use Rattle.std.proofs.Common.{◌∙◌, ap, sym}
use Rattle.rc_literals.specs.Extraction.{greatest_whole, grown, spelled_bytes}
use Rattle.rc_needles.specs.Tables.{needles_in}
use Rattle.rc_pattern.specs.Meaning.{meaning}
use Rattle.rc_literals.proofs.ExtractionLemmas.{each_spelled, turn_failed, turn_taken, turns_done}
use Rattle.rc_literals.proofs.KindLemmas.{none_spelled}
use Rattle.rc_literals.proofs.prefixes.+add_whole.Goals as goal

pub add_whole-returns-in-Empty-4 : goal.add_whole-returns-in-Empty-4
add_whole-returns-in-Empty-4 t c =
    ap (grown greatest_whole (needles_in c.args.list.now.items)) (sym (ap spelled_bytes c.kind.ensures.value) ∙ none_spelled c.kind.result.now c.in-Empty.is)

pub add_whole_alternation-returns-then-not-branch : goal.add_whole_alternation-returns-then-not-branch
add_whole_alternation-returns-then-not-branch t c =
    let begun = needles_in c.args.list.now.items in
    let old = needles_in c.loop-sub.list.items in
    let new = needles_in c.add_whole.new.list.items in
    ap (grown greatest_whole begun) (sym (each_spelled c.args.subs.now))
    ∙ turn_failed greatest_whole (λ h. spelled_bytes (meaning h)) begun old new c.args.subs.now c.loop-sub.sub-index c.sub-item.result _ _ c.loop-sub-test.true c.sub-item.is
    c.loop-sub.invariant c.in_ok-add_whole.ensures c.if-not-branch.true

pub add_whole_alternation-loop-sub-preserved : goal.add_whole_alternation-loop-sub-preserved
add_whole_alternation-loop-sub-preserved t c =
    let begun = needles_in c.args.list.now.items in
    let old = needles_in c.loop-sub.list.items in
    let new = needles_in c.add_whole.new.list.items in
    turn_taken greatest_whole (λ h. spelled_bytes (meaning h)) begun old new c.args.subs.now c.loop-sub.sub-index c.sub-item.result _ _ c.loop-sub-test.true c.sub-item.is
    c.loop-sub.invariant c.in_ok-add_whole.ensures c.if-not-branch.false

pub add_whole_alternation-returns : goal.add_whole_alternation-returns
add_whole_alternation-returns t c =
    let begun = needles_in c.args.list.now.items in
    ap (grown greatest_whole begun) (sym (each_spelled c.args.subs.now))
    ∙ turns_done greatest_whole (λ h. spelled_bytes (meaning h)) begun (needles_in c.loop-sub.list.items) c.args.subs.now c.loop-sub.sub-index c.loop-sub-test.false
    c.loop-sub.invariant
