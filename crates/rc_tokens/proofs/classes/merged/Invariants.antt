use Rattle.std.proofs.Common.{◌≡◌, ◌++◌, drop}
use Rattle.rc_tokens.specs.ClassView.{pair, pairs}
use Rattle.rc_tokens.specs.Merged.{merges, merged}
use Rattle.rc_tokens.proofs.classes.merged.Given as goal

abbrev pub invariant-loop-i : goal.invariant-loop-i
invariant-loop-i l = merged l.fn.unicode (pairs l.ranges) ≡ pairs l.all.items ++ merges l.fn.unicode (pair l.current) (pairs (drop l.i l.ranges))
