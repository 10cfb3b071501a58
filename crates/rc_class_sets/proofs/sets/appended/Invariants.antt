use Rattle.std.proofs.Common.{◌≡◌, ◌++◌, drop}
use Rattle.rc_tokens.specs.ClassView.{pairs}
use Rattle.rc_class_sets.proofs.sets.appended.Given as goal

abbrev pub invariant-loop-range : goal.invariant-loop-range
invariant-loop-range l = pairs l.left ++ pairs l.right ≡ pairs l.all.items ++ pairs (drop l.range-index l.right)
