-- Chunks that are shown, and empty ones that are passed.
use Rattle.std.proofs.Common.{◌≡◌, ◌∙◌, ◌+◌, ◌<◌, ℕ, zero, suc, List, ◌++◌, ap, arith, drop, inl, inr, length, sym, take}
use Rattle.std.specs.Borrow.{Bor}
use Rattle.std.proofs.lemmas.Bool.{cases_lt}
use Rattle.std.proofs.lemmas.List.{append-nil, drop_all, nil_from_length}
use Rattle.rc_text.specs.Joined.{IsChunk, chunk_at, joined}
use Rattle.rc_text.proofs.Joins.{joined-drop, joined-take}
use Rattle.rc_text.proofs.Moves.{place_is}
use Rattle.text_chunks.specs.Piles.{IsAt}

-- the chunk with a byte, where it begins
pub place_chunk : (xs : List (Bor (List ℕ))) (at index offset : ℕ) → IsAt xs at index → offset ≡ length (joined (take index xs)) →
    IsChunk xs index offset (chunk_at xs index)
place_chunk xs at index offset h begin = place_is xs index offset at begin (omega (arith, begin, h.low)) (omega (arith, begin, h.high))

-- a byte stands in the first i chunks only where i is above 0
pub some_first : (xs : List (Bor (List ℕ))) (i : ℕ) → 0 < length (joined (take i xs)) → 0 < i
some_first xs zero h = h
some_first xs (suc i) h = omega arith

-- a byte stands in the chunks from i on only where i is an index
pub some_last : (xs : List (Bor (List ℕ))) (i : ℕ) → 0 < length (joined (drop i xs)) → i < length xs
some_last xs i h =
    elim (cases_lt i (length xs)) [
      | inl k ↦ k
      | inr k ↦ absurd (omega (arith, h, ap (λ ys. length (joined ys)) (drop_all i xs k)))
    ]

module _ (xs : List (Bor (List ℕ))) (i : ℕ) (none : length (chunk_at xs i) ≡ 0) where
  -- an empty chunk adds nothing
  pub skip_take : joined (take (i + 1) xs) ≡ joined (take i xs)
  skip_take = joined-take xs i ∙ ap (λ c. joined (take i xs) ++ c) (nil_from_length (chunk_at xs i) none) ∙ append-nil (joined (take i xs))

  pub skip_drop : joined (drop (i + 1) xs) ≡ joined (drop i xs)
  skip_drop = sym (joined-drop xs i ∙ ap (λ c. c ++ joined (drop (i + 1) xs)) (nil_from_length (chunk_at xs i) none))
