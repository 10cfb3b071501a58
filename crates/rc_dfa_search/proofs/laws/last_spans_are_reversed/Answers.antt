use Rattle.rc_dfa_search.proofs.ReverseEndLemmas.{reverse_end_law}
use Rattle.rc_dfa_search.proofs.laws.last_spans_are_reversed.Goals as goal

pub returns : goal.returns
returns c = reverse_end_law
