use Rattle.std.proofs.Common.{◌≡◌, drop}
use Rattle.rc_tokens.specs.ClassView.{pairs}
use Rattle.rc_tokens.specs.Classes.{has_high}
use Rattle.rc_tokens.proofs.classes.has_high.Given as goal

abbrev pub invariant-loop-range : goal.invariant-loop-range
invariant-loop-range l = has_high (pairs l.ranges) ≡ has_high (pairs (drop l.range-index l.ranges))
