use Rattle.rc_pikevm_search.proofs.Listed.{left_law}
use Rattle.rc_pikevm_search.proofs.laws.lists_go_on.Goals as goal

pub returns : goal.returns
returns c = left_law
