use Rattle.rc_determinize.proofs.LawLemmas.{forward_law}
use Rattle.rc_determinize.proofs.laws.states_carry_first_walks.Goals as goal

pub returns : goal.returns
returns c = forward_law
