-- Pieces, as the chunks of a content.
use Rattle.std.specs.Prelude.{ℕ, List, map}
use Rattle.std.specs.Borrow.{Bor}

-- some bytes, as a reference to them is seen
abbrev pub lent : List ℕ → Bor (List ℕ)
lent bytes = record { ref_ptr = (0, 0); now = bytes }

-- the bytes of each piece, as the chunks of a content
abbrev pub chunks_of : {A : Type 0} → (A → List ℕ) → List A → List (Bor (List ℕ))
chunks_of bytes pieces = map (λ p. lent (bytes p)) pieces

-- The bytes of a span, as they are gone through: those that are shown, and those that follow them.
pub record Spanned : Type 0 where
  pub shown : List ℕ
  pub left : List ℕ
