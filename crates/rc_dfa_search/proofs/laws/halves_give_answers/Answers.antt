use Rattle.rc_dfa_search.proofs.LeftmostLemmas.{leftmost_law}
use Rattle.rc_dfa_search.proofs.laws.halves_give_answers.Goals as goal

pub returns : goal.returns
returns c = leftmost_law
