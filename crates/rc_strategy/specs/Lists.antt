-- Only proofs use this file.
-- Lists of matches: what the memo of one says.
use Rattle.std.specs.Prelude.{◌≡◌, true, false, IfSome}
use Rattle.rc_text.specs.Text.{Searched, high}
use Rattle.rc_table_search.specs.Memos.{IsMemo}
use Rattle.rc_dense_dfa.specs.Searches.{view_of}
use Rattle.rc_dense_dfa.specs.declared.dense.NoCache.{NoCache}
use Rattle.rc_strategy.specs.declared.engines.Engines.{Engines}
use Rattle.rc_strategy.specs.declared.list.ListMemo.{ListMemo}

-- If the memo is kept, it is true of runs by the DFA over the text of the input up to where its
-- bounds end.
abbrev pub IsListMemo : Engines → Searched → ListMemo → Type 0
IsListMemo e s m = m.is_kept ≡ true → IfSome e.tables (λ d. (k : NoCache) → IsMemo (view_of d false) k s (high s) false m.memo)
