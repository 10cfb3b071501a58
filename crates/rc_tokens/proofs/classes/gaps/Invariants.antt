use Rattle.std.proofs.Common.{◌≡◌, ◌++◌, drop}
use Rattle.rc_tokens.specs.ClassView.{pairs}
use Rattle.rc_tokens.specs.Classes.{gaps}
use Rattle.rc_tokens.proofs.classes.gaps.Given as goal

abbrev pub invariant-loop-i : goal.invariant-loop-i
invariant-loop-i l = gaps l.fn.unicode 0 (pairs l.ranges) ≡ pairs l.all.items ++ gaps l.fn.unicode l.start (pairs (drop l.i l.ranges))
