use Rattle.std.proofs.Common.{◌≡◌, length}
use Rattle.grep_lines.specs.Touched.{left_at}
use Rattle.grep_lines.proofs.touched.spans_from.Given as goal

-- spans that end before the place were passed over
abbrev pub invariant-loop-first : goal.invariant-loop-first
invariant-loop-first l = left_at l.place l.left ≡ left_at l.place l.spans

abbrev pub decreases-loop-first : goal.decreases-loop-first
decreases-loop-first l = length l.left
