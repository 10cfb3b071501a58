use Rattle.std.proofs.Common.{reverse}
use Rattle.rc_determinize.specs.Sides.{holds_by}
use Rattle.rc_determinize.proofs.GatherLemmas.{IsCollecting, left}
use Rattle.rc_determinize.proofs.forward.gather.Given as goal

abbrev pub invariant-places : goal.invariant-places
invariant-places l = IsCollecting l.places (holds_by l.behind l.ahead) l.after (reverse l.initial.stack.items) l.entered l.listed l.stack.items l.least

abbrev pub decreases-places : goal.decreases-places
decreases-places l = left l.places (holds_by l.behind l.ahead) l.after (reverse l.initial.stack.items) l.entered l.stack.items
