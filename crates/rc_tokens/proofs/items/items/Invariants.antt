use Rattle.std.proofs.Common.{◌≡◌, length}
use Rattle.rc_tokens.specs.ClassView.{pairs}
use Rattle.rc_tokens.specs.Items.{more}
use Rattle.rc_tokens.proofs.items.items.Given as goal

abbrev pub invariant-loop-member : goal.invariant-loop-member
invariant-loop-member l = more l.fn.unicode l.fn.after l.members (pairs l.fn.ranges.items) ≡ more l.fn.unicode l.after l.rest (pairs l.ranges.items)

abbrev pub decreases-loop-member : goal.decreases-loop-member
decreases-loop-member l = length l.rest
