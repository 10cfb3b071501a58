use Rattle.std.proofs.Common.{◌+◌, ◌≤◌, length}
use Rattle.rc_needles.proofs.scan.rare_offset.Given as goal

abbrev pub invariant-loop-at : goal.invariant-loop-at
invariant-loop-at l = l.rarest + 2 ≤ length l.needle
