use Rattle.std.proofs.Common.{◌≡◌, length}
use Rattle.grep_lines.specs.Touched.{are_from}
use Rattle.grep_lines.proofs.touched.are_in_order.Given as goal

-- the spans are in order where those left are, from the last one's start on
abbrev pub invariant-loop-first : goal.invariant-loop-first
invariant-loop-first l = are_from 0 l.spans ≡ are_from l.from l.left

abbrev pub decreases-loop-first : goal.decreases-loop-first
decreases-loop-first l = length l.left
