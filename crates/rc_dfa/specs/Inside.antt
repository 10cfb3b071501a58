-- Only proofs use this file.
-- Pieces of a text.
use Rattle.std.specs.Prelude.{◌≡◌, ◌+◌, ◌≤◌, ℕ, List, length, slice_range}
use Rattle.rc_text.specs.Text.{Searched}

-- The piece begins at the position, lies in the slice, and ends at the bound or before.
pub record IsPieceOf (seen : Searched) (bound start : ℕ) (piece : List ℕ) : Type 0 where
  pub is : piece ≡ slice_range seen.content start (start + length piece)
  pub low : seen.slice.start ≤ start
  pub high : start + length piece ≤ bound
