use Rattle.std.proofs.Common.{◌≡◌, ◌≤◌, ◌+◌, ◌^◌, min, drop}
use Rattle.rc_utf8.specs.Places.{places_of}
use Rattle.rc_weigh.specs.Weight.{laid_out}
use Rattle.rc_weigh.proofs.weight.laid_out.Given as goal

abbrev pub invariant-loop-place : goal.invariant-loop-place
invariant-loop-place l =
    (l.total ≤ 2 ^ 64) × (min (l.total + laid_out (places_of (drop l.place-index l.places))) (2 ^ 64) ≡ min (laid_out (places_of l.places)) (2 ^ 64))
