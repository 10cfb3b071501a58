use Rattle.std.proofs.lemmas.Nat.{or_lt}
use Rattle.rc_pattern.specs.Properties.{look_number}
use Rattle.rc_pattern.proofs.LookLemmas.{bit_of_or}
use Rattle.rc_pattern.proofs.hir.look_set.LookSet.union.Goals as goal

pub invariant_of-result : goal.invariant_of-result
invariant_of-result c = record { small = or_lt 18 c.args.self.bits c.args.other.bits c.args.self.small c.args.other.small }

pub returns : goal.returns
returns c = λ k. bit_of_or c.args.self.bits c.args.other.bits (look_number k)
