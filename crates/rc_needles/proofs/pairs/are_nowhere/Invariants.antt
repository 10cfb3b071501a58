use Rattle.std.proofs.Common.{ℕ, ◌-◌, ◌<◌}
use Rattle.rc_needles.specs.Pairs.{HasPair}
use Rattle.rc_needles.proofs.pairs.are_nowhere.Given as goal

abbrev pub invariant-loop-at : goal.invariant-loop-at
invariant-loop-at l = (k : ℕ) → k < l.at → ¬ HasPair l.first l.second l.piece k

abbrev pub decreases-loop-at : goal.decreases-loop-at
decreases-loop-at l = l.last - l.at
