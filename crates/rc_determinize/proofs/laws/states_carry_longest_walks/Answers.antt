use Rattle.rc_determinize.proofs.LongestStepLemmas.{longest_forward_law}
use Rattle.rc_determinize.proofs.laws.states_carry_longest_walks.Goals as goal

pub returns : goal.returns
returns c = longest_forward_law
