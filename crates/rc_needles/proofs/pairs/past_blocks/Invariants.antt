use Rattle.std.proofs.Common.{ℕ, ◌-◌, ◌<◌, ◌≤◌, length}
use Rattle.rc_needles.specs.Pairs.{HasPair}
use Rattle.rc_needles.proofs.pairs.past_blocks.Given as goal

abbrev pub invariant-loop-at : goal.invariant-loop-at
invariant-loop-at l = record {
  from : l.from ≤ l.at;
  most : l.at ≤ length l.piece;
  within : l.from < length l.piece → l.at < length l.piece;
  none : (k : ℕ) → l.from ≤ k → k < l.at → ¬ HasPair l.first l.second l.piece k;
}

abbrev pub decreases-loop-at : goal.decreases-loop-at
decreases-loop-at l = length l.piece - l.at
