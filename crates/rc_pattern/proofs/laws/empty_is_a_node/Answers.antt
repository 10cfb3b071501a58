use Rattle.rc_pattern.proofs.PlainNodeLemmas.{kind_law}
use Rattle.rc_pattern.proofs.laws.empty_is_a_node.Goals as goal

pub returns : goal.returns
returns c = kind_law
