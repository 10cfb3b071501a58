use Rattle.std.proofs.Common.{◌≡◌, inr, ap, ◌∙◌, arith}
use Rattle.std.proofs.lemmas.List.{length-map}
use Rattle.rc_program.specs.Program.{slot, place_at}
use Rattle.rc_program.specs.Places.{place_of, places_of}
use Rattle.rc_pikevm.proofs.AloneLemmas.{slot_inside}
use Rattle.rc_pikevm.proofs.LookUpLemmas.{placed}
use Rattle.rc_pikevm.proofs.alone.past_slot.Goals as goal

pub returns-in-Slot-clause-past : goal.returns-in-Slot-clause-past
returns-in-Slot-clause-past c =
    let items = c.args.spot.now.course.program.now.places.items in
    inr (c.in-Slot.field-0, placed items c.args.place c.index.result.now c.requires.place_in c.index.ensures ∙ ap place_of c.in-Slot.is)

pub returns-in-Slot-clause-inside : goal.returns-in-Slot-clause-inside
returns-in-Slot-clause-inside c =
    let items = c.args.spot.now.course.program.now.places.items in
    let is : place_at (places_of items) c.args.place ≡ slot c.in-Slot.field-0 c.in-Slot.next =
    placed items c.args.place c.index.result.now c.requires.place_in c.index.ensures ∙ ap place_of c.in-Slot.is in
    let size = length-map items place_of in
    let inside = slot_inside (places_of items) c.args.place c.in-Slot.field-0 c.in-Slot.next c.args.spot.now.course.program.now.runnable.closed
    (omega (arith, size, c.requires.place_in)) is in
    omega (arith, size, inside)
