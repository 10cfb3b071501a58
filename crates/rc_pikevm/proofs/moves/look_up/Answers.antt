use Rattle.std.proofs.Common.{◌∙◌, ap, subst}
use Rattle.rc_program.specs.Places.{place_of}
use Rattle.rc_pikevm.specs.Moves.{IsMove, moving}
use Rattle.rc_pikevm.specs.Near.{seen_from}
use Rattle.rc_pikevm.specs.declared.moves.Move.TheVariants.{Stays}
use Rattle.rc_pikevm.proofs.LookUpLemmas.{placed}
use Rattle.rc_pikevm.proofs.moves.look_up.Goals as goal

pub returns-then-not-is_open : goal.returns-then-not-is_open
returns-then-not-is_open g c =
    subst (λ b. IsMove (seen_from c.args.spot.now g.text) (c.args.place, c.args.spot.now.at) (moving (Stays c.in-Guard.next) b)) c.if-not-is_open.true
    (c.is_open.ensures c.args.place c.in-Guard.next
    (placed c.args.spot.now.course.program.now.places.items c.args.place c.index.result.now c.requires.1 c.index.ensures ∙ ap place_of c.in-Guard.is))

pub returns-else-not-is_open : goal.returns-else-not-is_open
returns-else-not-is_open g c =
    subst (λ b. IsMove (seen_from c.args.spot.now g.text) (c.args.place, c.args.spot.now.at) (moving (Stays c.in-Guard.next) b)) c.if-not-is_open.false
    (c.is_open.ensures c.args.place c.in-Guard.next
    (placed c.args.spot.now.course.program.now.places.items c.args.place c.index.result.now c.requires.1 c.index.ensures ∙ ap place_of c.in-Guard.is))

pub returns-in-Slot : goal.returns-in-Slot
returns-in-Slot g c = (
  c.in-Slot.field-0,
  placed c.args.spot.now.course.program.now.places.items c.args.place c.index.result.now c.requires.1 c.index.ensures ∙ ap place_of c.in-Slot.is,
  c.column.ensures,
)
