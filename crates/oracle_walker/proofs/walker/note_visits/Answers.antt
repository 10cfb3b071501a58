use Rattle.std.proofs.Common.{◌≡◌, ◌∙◌, ap, length, map, take, set, Some, None, slice_index_or, List}
use Rattle.rc_program.specs.Places.{places_of}
use Rattle.rc_walks.specs.Walks.{Pair}
use Rattle.oracle_walker.specs.Frames.{pair_of, fresh_frame}
use Rattle.oracle_walker.specs.declared.frames.Frame.{Frame}
use Rattle.oracle_walker.proofs.SlotLemmas.{no_slots, visits, visits_here, visits_none, one_more_frame}
use Rattle.oracle_walker.proofs.walker.note_visits.Goals as goal
use Rattle.oracle_walker.proofs.walker.note_visits.Goals.{in-Some, in_default}

pub visits-init : goal.visits-init
visits-init c = c.clear.ensures ∙ no_slots (length c.args.slots.now)

pub visits-preserved : goal.visits-preserved
visits-preserved c =
    let P = places_of c.args.program.now.places.items in
    let n = length c.args.slots.now in
    let i = c.visits.frame-index in
    let fs = c.args.frames.now.items in
    let none = fresh_frame 0 0 None in
    let frame : Frame = slice_index_or fs i none in
    let w : List Pair = map pair_of (take i fs) in
    let same = c.deref-frame-items.ensures.value in
    let more = one_more_frame fs i none (rw same at c.visits-test.true) in
    let named = rw same at c.slot_at.ensures in
    let before : c.visits.slots ≡ visits P n w = c.visits.invariant in
    elim c.match-slot_at.branch [
      | in-Some v ↦ rw (v.slots-is, more) (rw same at v.put.ensures ∙ ap (λ xs. set xs v.in-Some.slot (Some frame.position)) before
          ∙ visits_here P n w (pair_of frame) v.in-Some.slot (rw v.in-Some.is at named))
      | in_default v ↦ rw (v.slots-is, more) (before ∙ visits_none P n w (pair_of frame) (rw v.in_default.is at named))
    ]
