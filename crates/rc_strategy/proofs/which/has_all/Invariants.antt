use Rattle.std.proofs.Common.{ℕ, ◌<◌}
use Rattle.rc_pattern_set.specs.Sets.{Has}
use Rattle.rc_strategy.proofs.which.has_all.Given as goal

abbrev pub invariant-loop-number : goal.invariant-loop-number
invariant-loop-number l = (p : ℕ) → p < l.number → Has l.set p
