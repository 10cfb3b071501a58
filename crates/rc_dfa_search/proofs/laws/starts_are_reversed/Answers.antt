use Rattle.rc_dfa_search.proofs.ReverseLemmas.{reverse_law}
use Rattle.rc_dfa_search.proofs.laws.starts_are_reversed.Goals as goal

pub returns : goal.returns
returns c = reverse_law
