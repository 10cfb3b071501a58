use Rattle.rc_dfa.proofs.MemoLemmas.{none_in}
use Rattle.rc_dfa.proofs.memo.Memo.new.Goals as goal

pub returns-clause-empty : goal.returns-clause-empty
returns-clause-empty c k h = none_in 128 h.slot k h.there
