use Rattle.std.proofs.Common.{◌≡◌, ap, sym, true, false, ◌∙◌, ◌+◌, ◌-◌}
use Rattle.rc_literals.specs.Extraction.{copied, crossed, may_copy}
use Rattle.rc_needles.specs.Tables.{needles_in}
use Rattle.rc_literals.proofs.ExtractionLemmas.{copies_begun, copies_stopped, one_copied}
use Rattle.rc_literals.proofs.prefixes.copied.Goals as goal

pub loop-init : goal.loop-init
loop-init c =
    copies_begun (needles_in c.new-longer.result.items) (needles_in c.add_joined.new.list.items) (needles_in c.args.texts.now) c.args.copies
    (ap needles_in c.new-longer.ensures.items) c.in_ok-add_joined.ensures

pub returns-then-not-may_copy : goal.returns-then-not-may_copy
returns-then-not-may_copy c =
    let texts = needles_in c.args.texts.now in
    let may : may_copy (needles_in c.loop.longer.items) texts ≡ false =
    ap (λ xs. may_copy (needles_in xs) texts) (sym c.deref.ensures.value) ∙ sym c.may_copy.ensures ∙ c.if-not-may_copy.true in
    sym (c.loop.invariant ∙ copies_stopped (needles_in c.loop.longer.items) texts (c.args.copies - c.loop.counter) may)

pub loop-preserved : goal.loop-preserved
loop-preserved c =
    let texts = needles_in c.args.texts.now in
    let may : may_copy (needles_in c.loop.longer.items) texts ≡ true =
    ap (λ xs. may_copy (needles_in xs) texts) (sym c.deref.ensures.value) ∙ sym c.may_copy.ensures ∙ c.if-not-may_copy.false in
    let next = c.in_ok-longer.ensures in
    c.loop.invariant ∙ one_copied (needles_in c.loop.longer.items) texts c.args.copies c.loop.counter c.loop-test.true may
    ∙ ap (λ xs. copied (crossed (needles_in xs) texts) texts (c.args.copies - (c.loop.counter + 1))) (sym c.deref-in-loop.ensures.value)
    ∙ ap (λ ws. copied ws texts (c.args.copies - (c.loop.counter + 1))) (sym next)
