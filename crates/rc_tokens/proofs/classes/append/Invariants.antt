use Rattle.std.proofs.Common.{◌≡◌, ◌++◌, drop}
use Rattle.rc_tokens.specs.ClassView.{pairs}
use Rattle.rc_tokens.proofs.classes.append.Given as goal

abbrev pub invariant-loop-range : goal.invariant-loop-range
invariant-loop-range l = pairs l.fn.ranges.items ++ pairs l.more ≡ pairs l.ranges.items ++ pairs (drop l.range-index l.more)
