use Rattle.std.proofs.Common.{arith}
use Rattle.rc_needles.proofs.TeddyLemmas.{nonzero_fit, nonzero_set}
use Rattle.rc_needles.proofs.lanes.marks_of.Goals as goal

pub returns-clause-small : goal.returns-clause-small
returns-clause-small c = nonzero_fit c.args.lanes c.requires

pub returns-clause-set : goal.returns-clause-set
returns-clause-set c k l some = let one = nonzero_set c.args.lanes k c.requires l some in omega (arith, one)
