use Rattle.std.proofs.Common.{◌≡◌, map, take, length}
use Rattle.std.specs.List.{range_with_len}
use Rattle.rc_program.specs.Answer.{last_visit}
use Rattle.rc_program.specs.Places.{places_of}
use Rattle.oracle_walker.specs.Frames.{pair_of}
use Rattle.oracle_walker.proofs.walker.note_visits.Given as goal

abbrev pub invariant-visits : goal.invariant-visits
invariant-visits l = l.slots ≡ map (λ k. last_visit (places_of l.program.places.items) k (map pair_of (take l.frame-index l.frames.items))) (range_with_len 0 (length l.fn.slots))
