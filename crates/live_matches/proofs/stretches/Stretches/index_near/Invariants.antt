use Rattle.std.proofs.Common.{◌≤◌, ◌-◌}
use Rattle.live_matches.proofs.stretches.Stretches.index_near.Given as goal

-- the index is between the two
abbrev pub invariant-halves : goal.invariant-halves
invariant-halves l = l.low ≤ l.high

abbrev pub decreases-halves : goal.decreases-halves
decreases-halves l = l.high - l.low
