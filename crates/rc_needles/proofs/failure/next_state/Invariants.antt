use Rattle.rc_needles.proofs.FailureLemmas.{IsReached}
use Rattle.rc_needles.proofs.failure.next_state.Given as goal

abbrev pub invariant-loop-border : goal.invariant-loop-border
invariant-loop-border l = IsReached l.needle l.state l.byte l.border

abbrev pub decreases-loop-border : goal.decreases-loop-border
decreases-loop-border l = l.border
