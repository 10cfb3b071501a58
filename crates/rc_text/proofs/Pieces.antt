-- Ranges of a chunk, as ranges of the content.
use Rattle.std.proofs.Common.{◌≡◌, ℕ, ◌+◌, ◌-◌, ◌≤◌, ◌⊎◌, inl, inr, List, length, take, drop, ap, ◌∙◌, refl, arith, slice_range}
use Rattle.std.proofs.lemmas.List.{take-take, drop-drop, drop-take}
use Rattle.rc_text.specs.Piece.{Shows}
use Rattle.rc_text.proofs.Ranges.{length-slice_range}

module _ (content chunk : List ℕ) (offset from to : ℕ) (s : Shows content offset chunk) (ordered : from ≤ to) (within : to ≤ length chunk) where
  -- a range of the chunk stands in the content that far from the offset
  pub chunk_range : slice_range chunk from to ≡ slice_range content (offset + from) (offset + to)
  chunk_range =
      let size : ℕ = to - from in
      let split : length chunk ≡ from + (length chunk - from) = omega arith in
      let same : offset + to - (offset + from) ≡ size = omega arith in
      let rest : drop from chunk ≡ take (length chunk - from) (drop from (drop offset content)) =
      ap (drop from) s.bytes ∙ ap (λ n. drop from (take n (drop offset content))) split ∙ drop-take from (length chunk - from) (drop offset content) in
      rw same (ap (take size) rest ∙ take-take size (length chunk - from) (drop from (drop offset content)) (omega arith) ∙ ap (take size) (drop-drop from offset content))

  chunk_length : length (slice_range chunk from to) ≡ to - from
  chunk_length = length-slice_range chunk from to within

  -- a piece from p on: it is empty, or p stands at its start
  pub piece_from_is : (p : ℕ) → (from ≡ to) ⊎ (p ≡ offset + from) → slice_range chunk from to ≡ slice_range content p (p + length (slice_range chunk from to))
  piece_from_is p (inl e) = let none : to - from ≡ 0 = omega arith in let zero : p + 0 - p ≡ 0 = omega arith in rw (chunk_length, none, zero) refl
  piece_from_is p (inr e) = let up : p + (to - from) ≡ offset + to = omega arith in rw (chunk_length, up, e) chunk_range

  -- a piece that ends at p
  pub piece_before_is : (p : ℕ) → p ≡ offset + to → slice_range chunk from to ≡ slice_range content (p - length (slice_range chunk from to)) p
  piece_before_is p e = let down : p - (to - from) ≡ offset + from = omega arith in rw (chunk_length, down, e) chunk_range
