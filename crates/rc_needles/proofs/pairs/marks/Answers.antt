use Rattle.rc_needles.proofs.PairLemmas.{marked, marks_fit}
use Rattle.rc_needles.proofs.pairs.marks.Goals as goal

pub returns-clause-small : goal.returns-clause-small
returns-clause-small c = marks_fit c.args.piece.now c.args.at c.args.byte c.requires

pub returns-clause-set : goal.returns-clause-set
returns-clause-set c k l e = marked c.args.piece.now c.args.at c.args.byte k c.requires l e
