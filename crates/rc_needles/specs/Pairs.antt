-- Only proofs use this file.
-- Packed pair: two neighbouring bytes, with which a needle's rest begins.
use Rattle.std.specs.Prelude.{◌≡◌, ℕ, ◌+◌, ◌<◌, List, length, slice_index}

-- They are at the index k.
pub record HasPair (first second : ℕ) (piece : List ℕ) (k : ℕ) : Type 0 where
  pub is_first : slice_index piece k ≡ first
  pub is_second : slice_index piece (k + 1) ≡ second

-- They are there as far as the piece goes.
pub record HasBegun (first second : ℕ) (piece : List ℕ) (k : ℕ) : Type 0 where
  pub is_first : slice_index piece k ≡ first
  pub is_second : k + 1 < length piece → slice_index piece (k + 1) ≡ second
