use Rattle.rc_pikevm.specs.Marking.{HasAll}
use Rattle.rc_pikevm.proofs.which.first_absent.Given as goal

abbrev pub invariant-loop-number : goal.invariant-loop-number
invariant-loop-number l = HasAll l.first l.number l.set
