-- The moves of a cursor over chunks.
use Rattle.std.proofs.Common.{◌≡◌, ℕ, ◌+◌, ◌-◌, ◌<◌, ◌≤◌, List, [], length, take, drop, ap, sym, ◌∙◌, refl, arith, length-append}
use Rattle.std.specs.Borrow.{Bor}
use Rattle.std.proofs.lemmas.List.{nil_from_length, take_all}
use Rattle.rc_text.specs.Joined.{joined, chunk_at, IsChunk, IsNextFilled, IsLastFilled}
use Rattle.rc_text.proofs.Joins.{joined-parts, joined-drop, next_start}

-- where there is no byte, each chunk is empty
pub no_bytes : (xs : List (Bor (List ℕ))) → length (joined xs) ≡ 0 → IsChunk xs 0 0 []
no_bytes xs h = record {
  is = sym (nil_from_length (chunk_at xs 0) (omega (arith, h, simp length-append at (ap length (joined-drop xs 0)))));
  start = refl;
  some = λ _. h;
}

-- the chunk with a byte of the content has a byte
pub place_is : (xs : List (Bor (List ℕ))) (index offset at : ℕ) → offset ≡ length (joined (take index xs)) → offset ≤ at → at < offset + length (chunk_at xs index) → IsChunk xs index offset (chunk_at xs index)
place_is xs index offset at start low high = record {
  is = refl;
  start = start;
  some = λ e. absurd (omega (arith, low, high, e));
}

-- the last chunk with a byte ends where the content does
pub last_of_all : (xs : List (Bor (List ℕ))) (index : ℕ) (last : List ℕ) → IsLastFilled xs (length xs) index last → length (joined xs) ≡ length (joined (take index xs)) + length last
last_of_all xs index last h = omega (arith, simp length-append at (ap (λ ys. length (joined ys)) (sym (take_all (length xs) xs (omega arith))) ∙ ap length h.between))

pub last_filled_is : (xs : List (Bor (List ℕ))) (index total : ℕ) (last : List ℕ) → total ≡ length (joined xs) → IsLastFilled xs (length xs) index last → IsChunk xs index (total - length last) last
last_filled_is xs index total last e h = record {
  is = h.is;
  start = omega (arith, e, last_of_all xs index last h);
  some = λ n. absurd (omega (arith, h.some, n));
}

module _ (xs : List (Bor (List ℕ))) (i offset : ℕ) (chunk : List ℕ) (c : IsChunk xs i offset chunk) where
  -- where a chunk does not end the content, a byte stands in a chunk after it
  pub some_after : (total : ℕ) → total ≡ length (joined xs) → (offset + length chunk ≡ total → ⊥) → 0 < length (joined (drop (i + 1) xs))
  some_after total e h = omega (arith, e, h, next_start xs i offset chunk c, simp length-append at (ap length (joined-parts xs (i + 1))))

  -- the next chunk with a byte begins where this one ends
  pub next_is : (index : ℕ) → IsNextFilled xs (i + 1) index → IsChunk xs index (offset + length chunk) (chunk_at xs index)
  next_is index h = record {
    is = refl;
    start = next_start xs i offset chunk c ∙ ap length (sym h.between);
    some = λ e. absurd (omega (arith, h.some, e));
  }

  -- the last chunk with a byte before this one ends where this one begins
  pub last_ends : (index : ℕ) (last : List ℕ) → IsLastFilled xs i index last → offset ≡ length (joined (take index xs)) + length last
  last_ends index last h = omega (arith, c.start, simp length-append at (ap length h.between))

  pub last_is : (index : ℕ) (last : List ℕ) → IsLastFilled xs i index last → IsChunk xs index (offset - length last) last
  last_is index last h = record {
    is = h.is;
    start = omega (arith, last_ends index last h);
    some = λ e. absurd (omega (arith, h.some, e));
  }
