-- Pieces, as chunks.
use Rattle.std.proofs.Common.{◌≡◌, ℕ, zero, suc, ◌+◌, ◌<◌, ◌≤◌, List, length, get_or, take, drop, inl, inr, ap, sym, ◌∙◌, arith, ◌++◌, refl}
use Rattle.std.proofs.lemmas.Bool.{cases_lt}
use Rattle.std.proofs.lemmas.List.{length-map, get_or-map, append-nil, nil_from_length, drop_all}
use Rattle.std.specs.Borrow.{Bor}
use Rattle.rc_text.specs.Joined.{joined, chunk_at, IsChunk, IsNextFilled}
use Rattle.rc_text.proofs.Joins.{no_chunk, chunk_at-read, joined-take, joined-drop}
use Rattle.rc_pieces.specs.Pieces.{lent, chunks_of}

-- as many chunks as pieces
pub length-chunks_of : {A : Type 0} (bytes : A → List ℕ) (xs : List A) → length (chunks_of bytes xs) ≡ length xs
length-chunks_of bytes xs = length-map xs (λ p. lent (bytes p))

-- a byte stands in the first i chunks only where i is above 0
pub some_first : (chunks : List (Bor (List ℕ))) (i : ℕ) → 0 < length (joined (take i chunks)) → 0 < i
some_first chunks zero h = h
some_first chunks (suc i) h = omega arith

-- a byte stands in the chunks from i on only where i is an index
pub within_by : {A : Type 0} (bytes : A → List ℕ) (xs : List A) (i : ℕ) → 0 < length (joined (drop i (chunks_of bytes xs))) → i < length xs
within_by bytes xs i h =
    elim (cases_lt i (length xs)) [
      | inl k ↦ k
      | inr k ↦ let past : length (chunks_of bytes xs) ≤ i = rw (length-chunks_of bytes xs) k in absurd (omega (arith, h, ap (λ cs. length (joined cs)) (drop_all i (chunks_of bytes xs) past)))
    ]

module _ {A : Type 0} (bytes : A → List ℕ) (xs : List A) (i : ℕ) (y : A) (within : i < length xs) where
  chunk_within : i < length (chunks_of bytes xs)
  chunk_within = rw (length-chunks_of bytes xs) within

  -- the bytes of the piece at an index are those of the chunk there
  pub chunk_at-get : bytes (get_or xs i y) ≡ chunk_at (chunks_of bytes xs) i
  chunk_at-get = sym (ap (λ c. c.now) (get_or-map (λ p. lent (bytes p)) xs i y no_chunk within)) ∙ chunk_at-read (chunks_of bytes xs) i chunk_within

module _ {A : Type 0} (bytes : A → List ℕ) (xs : List A) (i : ℕ) (y : A) (is : y ≡ get_or xs i y) (within : i < length xs) where
  pub chunk_at-piece : bytes y ≡ chunk_at (chunks_of bytes xs) i
  chunk_at-piece = ap bytes is ∙ chunk_at-get bytes xs i y within

  -- the bytes up to a piece, and its own
  pub joined-take_piece : joined (take (i + 1) (chunks_of bytes xs)) ≡ joined (take i (chunks_of bytes xs)) ++ bytes y
  joined-take_piece = rw chunk_at-piece (joined-take (chunks_of bytes xs) i)

  module _ (none : length (bytes y) ≡ 0) where
    -- an empty piece adds nothing
    pub skip_take : joined (take (i + 1) (chunks_of bytes xs)) ≡ joined (take i (chunks_of bytes xs))
    skip_take = joined-take_piece ∙ rw (nil_from_length (bytes y) none, append-nil) refl

    pub skip_drop : joined (drop (i + 1) (chunks_of bytes xs)) ≡ joined (drop i (chunks_of bytes xs))
    skip_drop = sym (joined-drop (chunks_of bytes xs) i ∙ rw (← chunk_at-piece, nil_from_length (bytes y) none) refl)

-- the first chunk with a byte begins at 0
pub first_filled : (cs : List (Bor (List ℕ))) (index : ℕ) → IsNextFilled cs 0 index → IsChunk cs index 0 (chunk_at cs index)
first_filled cs index h = record {
  is = refl;
  start = ap length (sym h.between);
  some = λ e. absurd (omega (arith, h.some, e));
}
