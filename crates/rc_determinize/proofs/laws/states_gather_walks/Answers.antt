use Rattle.rc_determinize.proofs.LawLemmas.{gather_law}
use Rattle.rc_determinize.proofs.laws.states_gather_walks.Goals as goal

pub returns : goal.returns
returns c = gather_law
