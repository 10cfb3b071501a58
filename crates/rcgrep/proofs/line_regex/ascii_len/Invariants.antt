use Rattle.std.proofs.Common.{◌-◌, ◌≤◌, length}
use Rattle.rcgrep.proofs.line_regex.ascii_len.Given as goal

abbrev pub invariant-loop-place : goal.invariant-loop-place
invariant-loop-place l = l.place ≤ length l.bytes

abbrev pub decreases-loop-place : goal.decreases-loop-place
decreases-loop-place l = length l.bytes - l.place
