use Rattle.std.proofs.Common.{◌∷◌, [], ap, subst, sym, ◌∙◌, Some}
use Rattle.rc_literals.specs.Extraction.{Extends, greatest_count, grown}
use Rattle.rc_needles.specs.Tables.{needles_in}
use Rattle.rc_literals.proofs.ExtractionLemmas.{each_needle, turn_failed, turns_done}
use Rattle.rc_literals.proofs.prefixes.add_needles.Goals as goal

pub returns-then-not-branch : goal.returns-then-not-branch
returns-then-not-branch c =
    let begun = needles_in c.args.list.now.items in
    ap (grown greatest_count begun) (sym (each_needle c.args.needles.now))
    ∙ turn_failed greatest_count (λ v. Some (v.items ∷ [])) begun (needles_in c.loop-needle.list.items) (needles_in c.add_needle.new.list.items) c.args.needles.now
    c.loop-needle.needle-index c.needle-item.result _ _ c.loop-needle-test.true c.needle-item.is c.loop-needle.invariant
    (subst (λ w. Extends greatest_count c.in_ok-add_needle.field-0 (needles_in c.loop-needle.list.items) (needles_in c.add_needle.new.list.items) (Some (w ∷ [])))
    c.deref.ensures.value c.in_ok-add_needle.ensures) c.if-not-branch.true

pub returns : goal.returns
returns c =
    let begun = needles_in c.args.list.now.items in
    ap (grown greatest_count begun) (sym (each_needle c.args.needles.now))
    ∙ turns_done greatest_count (λ v. Some (v.items ∷ [])) begun (needles_in c.loop-needle.list.items) c.args.needles.now c.loop-needle.needle-index
    c.loop-needle-test.false c.loop-needle.invariant
