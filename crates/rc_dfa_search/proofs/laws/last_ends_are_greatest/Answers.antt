use Rattle.rc_dfa_search.proofs.LastLemmas.{last_law}
use Rattle.rc_dfa_search.proofs.laws.last_ends_are_greatest.Goals as goal

pub returns : goal.returns
returns c = last_law
