use Rattle.rc_dfa_search.proofs.RestLemmas.{given_law}
use Rattle.rc_dfa_search.proofs.laws.starts_give_answers.Goals as goal

pub returns : goal.returns
returns c = given_law
