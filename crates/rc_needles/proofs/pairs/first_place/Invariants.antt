use Rattle.std.proofs.Common.{ℕ, ◌-◌, ◌<◌}
use Rattle.rc_needles.specs.Tables.{Agrees}
use Rattle.rc_needles.proofs.pairs.first_place.Given as goal

abbrev pub invariant-loop-at : goal.invariant-loop-at
invariant-loop-at l = (k : ℕ) → k < l.at → ¬ Agrees l.piece l.rest k

abbrev pub decreases-loop-at : goal.decreases-loop-at
decreases-loop-at l = l.last - l.at
