use Rattle.rc_dfa_search.proofs.MetLemmas.{met_law}
use Rattle.rc_dfa_search.proofs.laws.ends_have_walks.Goals as goal

pub returns : goal.returns
returns c = met_law
