use Rattle.std.proofs.Common.{arith}
use Rattle.std.proofs.lemmas.Nat.{and_le_l}
use Rattle.rc_needles.proofs.PairLemmas.{both_set}
use Rattle.rc_needles.proofs.pairs.pairs_from.Goals as goal

pub returns-clause-small : goal.returns-clause-small
returns-clause-small c =
    let le = and_le_l c.marks.result c.marks-2.result in
    omega (arith, le, c.marks.ensures.small)

pub returns-clause-set : goal.returns-clause-set
returns-clause-set c k l pair =
    both_set c.args.first c.args.second c.args.piece.now c.args.at c.marks.result c.marks-2.result k c.marks.ensures.set c.marks-2.ensures.set l pair
