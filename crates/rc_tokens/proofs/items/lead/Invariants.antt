use Rattle.std.proofs.Common.{◌≡◌, length}
use Rattle.rc_tokens.specs.ClassView.{pairs}
use Rattle.rc_tokens.specs.Items.{led_more}
use Rattle.rc_tokens.proofs.items.lead.Given as goal

abbrev pub invariant-loop-member : goal.invariant-loop-member
invariant-loop-member l = led_more l.fn.unicode l.members (pairs l.fn.ranges.items) ≡ led_more l.fn.unicode l.rest (pairs l.ranges.items)

abbrev pub decreases-loop-member : goal.decreases-loop-member
decreases-loop-member l = length l.rest
