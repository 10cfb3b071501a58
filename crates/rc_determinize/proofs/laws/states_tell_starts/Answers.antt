use Rattle.rc_determinize.proofs.LawLemmas.{backward_law}
use Rattle.rc_determinize.proofs.laws.states_tell_starts.Goals as goal

pub returns : goal.returns
returns c = backward_law
