-- What is kept for a list, and how long it is true.
use Rattle.std.proofs.Common.{◌≡◌, ℕ, Bool, true, false, true≢false, IfSome, Option, Some, None, ap, refl, subst, sym, ◌∙◌}
use Rattle.rc_text.specs.Text.{Keeps, Searched, high}
use Rattle.rc_text.specs.declared.types.Span.{Span}
use Rattle.rc_program.specs.Text.{Text}
use Rattle.rc_program.specs.Sought.{text_of}
use Rattle.rc_pikevm_search.specs.Moved.{IsMoved}
use Rattle.rc_dfa.specs.Memos.{IsBare}
use Rattle.rc_dfa.specs.declared.memo.Memo.{Memo}
use Rattle.rc_table_search.specs.Views.{View}
use Rattle.rc_table_search.specs.Memos.{FindsBelow, IsMemo}
use Rattle.rc_table_search.specs.MemoLaws.{bare_memo}
use Rattle.rc_dense_dfa.specs.Searches.{view_of}
use Rattle.rc_dense_dfa.specs.declared.dense.Dense.{Dense}
use Rattle.rc_dense_dfa.specs.declared.dense.NoCache.{NoCache}
use Rattle.rc_strategy.specs.Lists.{IsListMemo}
use Rattle.rc_strategy.specs.declared.engines.Engines.{Engines}
use Rattle.rc_strategy.specs.declared.list.ListMemo.{ListMemo}

same_text : (terminator : ℕ) (a b : Searched) → b.content ≡ a.content → b.slice ≡ a.slice → text_of terminator b ≡ text_of terminator a
same_text terminator a b content slice = rw (content, slice) refl

same_high : (a b : Searched) → b.content ≡ a.content → b.slice ≡ a.slice → b.span.end ≡ a.span.end → high b ≡ high a
same_high a b content slice end = rw (content, slice, end) refl

memo_same : {C : Type 0} (v : View C) (c : C) (s b : Searched) (bound : ℕ) (early : Bool) (t : Memo) → b.content ≡ s.content → b.slice ≡ s.slice →
    IsMemo v c s bound early t → IsMemo v c b bound early t
memo_same v c s b bound early t content slice x = record {
  past = x.past;
  marks = λ same below k has.
      let y = x.marks same below k has in record {
        is_row = y.is_row;
        ends = λ m of u has.
            subst (λ (text : Text). FindsBelow m text bound k.at u early k.found k.read) (sym (same_text m.setting.terminator s b content slice)) (y.ends m of u has);
      };
}

-- the memo of a DFA is true of the text of the input
abbrev Speaks : Option Dense → Searched → Memo → Type 0
Speaks o s t = IfSome o (λ d. (k : NoCache) → IsMemo (view_of d false) k s (high s) false t)

moved_by : (o : Option Dense) (s b : Searched) (t : Memo) → IsMoved s b → Speaks o s t → Speaks o b t
moved_by None s b t moved h = tt
moved_by (Some d) s b t moved h =
    λ k. subst (λ x. IsMemo (view_of d false) k b x false t) (sym (same_high s b moved.content moved.slice moved.end))
    (memo_same (view_of d false) k s b (high s) false t moved.content moved.slice (h k))

bare_by : (o : Option Dense) (s : Searched) (t : Memo) → IsBare t → Speaks o s t
bare_by None s t b = tt
bare_by (Some d) s t b = λ k. bare_memo (view_of d false) k s (high s) false t b

-- it depends on the content, the slice and the end of the bounds alone
pub list_moved : (e : Engines) (s b : Searched) (m : ListMemo) → IsMoved s b → IsListMemo e s m → IsListMemo e b m
list_moved e s b m moved h kept = moved_by e.tables s b m.memo moved (h kept)

pub moves_kept : (s b : Searched) → Keeps s b → IsMoved s b
moves_kept s b k = record { content = k.content; end = ap (λ (x : Span). x.end) k.span; slice = k.slice; anchored = k.anchored; earliest = k.earliest }

-- one without marks says nothing
pub list_bare : (e : Engines) (s : Searched) (m : ListMemo) → (m.is_kept ≡ true → IsBare m.memo) → IsListMemo e s m
list_bare e s m bare kept = bare_by e.tables s m.memo (bare kept)

-- nor does one that isn't kept
pub none_kept : (e : Engines) (s : Searched) (m : ListMemo) → m.is_kept ≡ false → IsListMemo e s m
none_kept e s m none kept = absurd (true≢false (sym kept ∙ none))

-- one of a DFA is one of the engines with it
pub list_by : (e : Engines) (d : Dense) (s : Searched) (m : ListMemo) → e.tables ≡ Some d → ((k : NoCache) → IsMemo (view_of d false) k s (high s) false m.memo) → IsListMemo e s m
list_by e d s m is h kept = subst (λ o. Speaks o s m.memo) (sym is) h

pub by_list : (e : Engines) (d : Dense) (s : Searched) (m : ListMemo) → e.tables ≡ Some d → m.is_kept ≡ true → IsListMemo e s m →
    (k : NoCache) → IsMemo (view_of d false) k s (high s) false m.memo
by_list e d s m is kept h = subst (λ o. Speaks o s m.memo) is (h kept)
