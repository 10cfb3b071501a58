use Rattle.rc_dfa_search.proofs.RestLemmas.{rest_law}
use Rattle.rc_dfa_search.proofs.laws.runs_may_rest.Goals as goal

pub returns : goal.returns
returns c = rest_law
