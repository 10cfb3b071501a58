use Rattle.rc_pattern.specs.Properties.{look_number}
use Rattle.rc_pattern.proofs.LookLemmas.{bit_of_and}
use Rattle.rc_pattern.proofs.hir.look_set.LookSet.intersect.Goals as goal

pub returns : goal.returns
returns c = λ k. bit_of_and c.args.self.bits c.args.other.bits (look_number k)
