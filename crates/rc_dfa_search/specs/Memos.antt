-- Only proofs use this file.
-- Memos: how long they stay true.
use Rattle.std.specs.Prelude.{ℕ, Bool}
use Rattle.rc_text.specs.Text.{Searched}
use Rattle.rc_dfa.specs.declared.memo.Memo.{Memo}

-- What a memo says of runs over a text, stays true while searches of any text add states.
abbrev pub MemosLast : {C : Type 0} → (C → Type 0) → (C → C → ℕ → Type 0) → (C → Searched → ℕ → Bool → Memo → Type 0) → Type 0
MemosLast {C} IsCache Spends IsMemo =
    (a b : C) (n : ℕ) (s : Searched) (bound : ℕ) (early : Bool) (t : Memo) → IsCache a → Spends a b n → IsMemo a s bound early t → IsMemo b s bound early t
