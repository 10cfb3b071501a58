use Rattle.std.proofs.Common.{◌≡◌, ◌++◌, drop}
use Rattle.rc_tokens.specs.ClassView.{pairs}
use Rattle.rc_class_names.proofs.posix.code_ranges.Given as goal

abbrev pub invariant-loop-i : goal.invariant-loop-i
invariant-loop-i l = l.ranges ≡ pairs l.all.items ++ drop l.i l.ranges
