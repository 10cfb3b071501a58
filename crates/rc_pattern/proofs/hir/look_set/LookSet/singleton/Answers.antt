use Rattle.rc_pattern.proofs.LookLemmas.{bit_of_look}
use Rattle.rc_pattern.proofs.hir.look_set.LookSet.singleton.Goals as goal

pub returns : goal.returns
returns c = λ k. bit_of_look c.args.look k c.number_of.result c.number_of.ensures.value
