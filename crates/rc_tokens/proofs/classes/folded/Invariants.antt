use Rattle.std.proofs.Common.{◌≡◌, ◌++◌, drop}
use Rattle.rc_tokens.specs.ClassView.{pairs}
use Rattle.rc_tokens.specs.Classes.{folded}
use Rattle.rc_tokens.proofs.classes.folded.Given as goal

abbrev pub invariant-loop-i : goal.invariant-loop-i
invariant-loop-i l = folded (pairs l.ranges) ≡ pairs l.all.items ++ folded (pairs (drop l.i l.ranges))
