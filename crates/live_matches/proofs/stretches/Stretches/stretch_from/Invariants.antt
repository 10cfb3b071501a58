use Rattle.std.proofs.Common.{◌-◌, length}
use Rattle.live_matches.proofs.Stretched.{IsJoined}
use Rattle.live_matches.proofs.stretches.Stretches.stretch_from.Given as goal

-- no match begins in what is joined so far
abbrev pub invariant-each : goal.invariant-each
invariant-each l = IsJoined l.self.entries l.at l.stretch

abbrev pub decreases-each : goal.decreases-each
decreases-each l = length l.self.entries.before - l.index
