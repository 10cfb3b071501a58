use Rattle.std.proofs.Common.{◌≡◌, ◌++◌, drop}
use Rattle.rc_tokens.specs.ClassView.{pairs}
use Rattle.rc_class_sets.specs.Scalars.{cut}
use Rattle.rc_class_sets.proofs.properties.without_surrogates.Given as goal

abbrev pub invariant-loop-i : goal.invariant-loop-i
invariant-loop-i l = cut l.ranges ≡ pairs l.all.items ++ cut (drop l.i l.ranges)
