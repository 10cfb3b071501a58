-- Only proofs use this file.
-- Memos: what earlier runs over a text found from some of their positions on.
use Rattle.std.specs.Prelude.{◌≡◌, ℕ, Some, slice_get}
use Rattle.rc_dfa.specs.declared.memo.Mark.{Mark}
use Rattle.rc_dfa.specs.declared.memo.Memo.{Memo}

-- The memo has the mark.
pub record Has (t : Memo) (k : Mark) : Type 0 where
  pub slot : ℕ
  pub there : slice_get t.marks slot ≡ Some (Some k)

-- It has none, and is of no era.
pub record IsBare (t : Memo) : Type 0 where
  pub era : t.era ≡ 0
  pub empty : (k : Mark) → ¬ Has t k
