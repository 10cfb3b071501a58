use Rattle.std.proofs.Common.{◌∙◌, arith, refl, subst, sym}
use Rattle.rc_onepass.specs.Rows.{Names}
use Rattle.rc_onepass.specs.Walked.{HasWide, Stands}
use Rattle.rc_onepass.proofs.RunLemmas.{end_there, row_there, stands_first, stands_last, walk_end}
use Rattle.rc_onepass.proofs.onepass.OnePass.set_groups.Goals as goal

pub returns-clause-slots : goal.returns-clause-slots
returns-clause-slots g c done s c' sound content over =
    let a = c.start.ensures.value in let b = c.end.ensures.value in let o = c.end.ensures.ordered in
    stands_last c.args.self.now s c'.walk c.args.slots.now sound c.end.result c.in-Some.place c.cross.new.slots c.set_slots.new.slots c.in-Some-row.row.now
    c.in-Some-end.number c.in-Some-row.ensures c.in-Some-end.is (b ∙ walk_end s c' c.args.found over)
    (c.in-Some.ensures.stands s c'.walk c.args.slots.now sound content (b ∙ walk_end s c' c.args.found over)
    (subst (λ x. Stands s c'.walk c.args.slots.now x 0 c.args.slots.now) (sym a) (stands_first s c' c.args.found c.args.slots.now over))
    (omega (arith, a, b, o)))
    (λ ks names. c.set_slots.ensures.marks ks (subst (λ xs. Names xs c.in-Some-end.number ks) (sym c.deref.ensures.value) names))

pub returns-in_default-clause-wide : goal.returns-in_default-clause-wide
returns-in_default-clause-wide g c e s c' sound content over =
    let a = c.start.ensures.value in let b = c.end.ensures.value in let o = c.end.ensures.ordered in
    subst (λ x. HasWide s.text.content x c.args.found.end) a
    (subst (λ x. HasWide s.text.content c.start.result x) b
    (c.in_default.ensures.wide refl s c'.walk c.args.slots.now sound content (b ∙ walk_end s c' c.args.found over)
    (subst (λ x. Stands s c'.walk c.args.slots.now x 0 c.args.slots.now) (sym a) (stands_first s c' c.args.found c.args.slots.now over))
    (omega (arith, a, b, o))))

pub returns-in_default-row-clause-wide : goal.returns-in_default-row-clause-wide
returns-in_default-row-clause-wide g c e s c' sound content over =
    let a = c.start.ensures.value in let b = c.end.ensures.value in let o = c.end.ensures.ordered in
    absurd (row_there c.args.self.now s c'.walk c.args.slots.now sound c.end.result c.in-Some.place c.cross.new.slots
    (c.in-Some.ensures.stands s c'.walk c.args.slots.now sound content (b ∙ walk_end s c' c.args.found over)
    (subst (λ x. Stands s c'.walk c.args.slots.now x 0 c.args.slots.now) (sym a) (stands_first s c' c.args.found c.args.slots.now over))
    (omega (arith, a, b, o)))
    c.in_default-row.ensures)

pub returns-in_default-end-clause-wide : goal.returns-in_default-end-clause-wide
returns-in_default-end-clause-wide g c e s c' sound content over =
    let a = c.start.ensures.value in let b = c.end.ensures.value in let o = c.end.ensures.ordered in
    absurd (end_there c.args.self.now s c'.walk c.args.slots.now sound c.end.result c.in-Some.place c.cross.new.slots c.in-Some-row.row.now
    c.in-Some-row.ensures c.in_default-end.is (b ∙ walk_end s c' c.args.found over)
    (c.in-Some.ensures.stands s c'.walk c.args.slots.now sound content (b ∙ walk_end s c' c.args.found over)
    (subst (λ x. Stands s c'.walk c.args.slots.now x 0 c.args.slots.now) (sym a) (stands_first s c' c.args.found c.args.slots.now over))
    (omega (arith, a, b, o))))
