use Rattle.rc_dfa_search.proofs.UnreadLemmas.{unread_law}
use Rattle.rc_dfa_search.proofs.laws.unread_bytes.Goals as goal

pub returns : goal.returns
returns c = unread_law
