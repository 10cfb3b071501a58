-- Only proofs use this file.
-- Laws of memos over a table.
use Rattle.std.proofs.Common.{◌≡◌, ℕ, Bool, refl, sym, subst, arith}
use Rattle.rc_text.specs.Text.{Keeps, Searched}
use Rattle.rc_program.specs.Sought.{text_of}
use Rattle.rc_dfa.specs.Memos.{IsBare}
use Rattle.rc_dfa.specs.declared.memo.Memo.{Memo}
use Rattle.rc_table_search.specs.Views.{View}
use Rattle.rc_table_search.specs.Memos.{FindsBelow, IsMemo}

pub kept_text : (terminator : ℕ) (a b : Searched) → Keeps a b → text_of terminator b ≡ text_of terminator a
kept_text terminator a b k = rw (k.content, k.slice) refl

-- A memo doesn't speak of what is shown of the input.
pub memo_kept : {C : Type 0} (v : View C) (c : C) (s b : Searched) (bound : ℕ) (enough : Bool) (t : Memo) → Keeps s b → IsMemo v c s bound enough t → IsMemo v c b bound enough t
memo_kept v c s b bound enough t kept x = record {
  past = x.past;
  marks = λ same below k has.
      let y = x.marks same below k has in record {
        is_row = y.is_row;
        ends = λ m of u has. subst (λ text. FindsBelow m text bound k.at u enough k.found k.read) (sym (kept_text m.setting.terminator s b kept)) (y.ends m of u has);
      };
}

-- One with no marks says nothing.
pub bare_memo : {C : Type 0} (v : View C) (c : C) (s : Searched) (bound : ℕ) (enough : Bool) (t : Memo) → IsBare t → IsMemo v c s bound enough t
bare_memo v c s bound enough t bare = record {
  past = let era = bare.era in omega (arith, era);
  marks = λ same below k has. absurd (bare.empty k has);
}
