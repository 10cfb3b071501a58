use Rattle.std.proofs.Common.{arith, ◌%◌, ◌≡◌, ◌<◌, slice_index, subst}
use Rattle.rc_literals.specs.Answers.{owned_of}
use Rattle.rc_literals.specs.Marks.{HasRelated}
use Rattle.rc_literals.proofs.MarkLemmas.{done_on, done_set, from_related}
use Rattle.rc_literals.proofs.marks.mark_hit.Goals as goal

pub returns-then-done-slot-clause-adds : goal.returns-then-done-slot-clause-adds
returns-then-done-slot-clause-adds g c =
    let o = owned_of c.args.needles.now in
    let n = c.args.hit.number in
    let slot = n % 1024 in
    let small : slot < 1024 = omega arith in
    let noted : slice_index c.args.done.now slot ≡ n = c.if-done-slot.true in
    from_related o c.args.input.now.content c.args.end c.args.hit.start n c.args.set.now c.requires.here
    (subst (HasRelated o c.args.set.now) noted (c.requires.done slot (omega (arith, small, c.told-done)) (omega (arith, noted, c.requires.number))))

pub returns-then-has_related-clause-done : goal.returns-then-has_related-clause-done
returns-then-has_related-clause-done g c =
    let o = owned_of c.args.needles.now in
    let n = c.args.hit.number in
    let notes = c.args.done.now in
    done_set o c.mark_at.new.set notes (n % 1024) n
    (done_on o c.args.input.now.content c.args.end c.args.hit.start notes c.args.set.now c.mark_at.new.set c.mark_at.ensures.adds c.requires.done)
    (c.has_related.ensures c.if-has_related.true)

pub returns-else-has_related-clause-done : goal.returns-else-has_related-clause-done
returns-else-has_related-clause-done g c =
    done_on (owned_of c.args.needles.now) c.args.input.now.content c.args.end c.args.hit.start c.args.done.now c.args.set.now c.mark_at.new.set
    c.mark_at.ensures.adds c.requires.done
