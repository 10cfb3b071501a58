use Rattle.std.proofs.Common.{ℕ, ◌<◌, ◌≤◌, ◌-◌, length}
use Rattle.rc_pattern_set.specs.Sets.{Has}
use Rattle.rc_literals.proofs.marks.missing_from.Given as goal

abbrev pub invariant-loop-number : goal.invariant-loop-number
invariant-loop-number l = (p : ℕ) → l.from ≤ p → p < l.number → Has l.set p

abbrev pub decreases-loop-number : goal.decreases-loop-number
decreases-loop-number l = length l.set - l.number
