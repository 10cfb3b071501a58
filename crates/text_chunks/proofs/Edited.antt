-- What an edit makes of two piles, and of how many bytes they have.
use Rattle.std.proofs.Common.{◌≡◌, ◌∙◌, ◌+◌, ◌-◌, ◌≤◌, ℕ, List, ◌++◌, ap, append_assoc, arith, drop, length, reverse, sym, take}
use Rattle.std.specs.Borrow.{Bor}
use Rattle.std.proofs.lemmas.List.{take_at}
use Rattle.text_chunks.specs.Edits.{spliced}
use Rattle.text_chunks.proofs.Counts.{bytes, bytes-append, bytes-parts}
use Rattle.text_chunks.proofs.Turned.{back_drop}

-- the chunks from `start` to `end` have as many bytes less
pub bytes-spliced : (xs others : List (Bor (List ℕ))) (start end : ℕ) →
    bytes (spliced xs start end others) + bytes (take end xs) ≡ bytes (take start xs) + bytes others + bytes xs
bytes-spliced xs others start end =
    omega (arith, bytes-append (take start xs) (others ++ drop end xs), bytes-append others (drop end xs), bytes-parts end xs)

-- the chunks before a place have no more bytes than those before a later one
pub bytes-below : (xs : List (Bor (List ℕ))) (end : ℕ) → bytes (take end xs) ≤ bytes xs
bytes-below xs end = omega (arith, bytes-parts end xs)

-- the first pile ends where the edit begins, others are put on it, and some are taken from the second one
pub edited_is : (b a others v : List (Bor (List ℕ))) (start end : ℕ) → b ++ reverse a ≡ v → length b ≡ start → start ≤ end → end - start ≤ length a →
    (b ++ others) ++ reverse (take (length a - (end - start)) a) ≡ spliced v start end others
edited_is b a others v start end is at order few =
    let there : length b + (end - start) ≡ end = omega (arith, at, order) in
    append_assoc b others (reverse (take (length a - (end - start)) a))
    ∙ ap (λ r. b ++ (others ++ r)) (sym (back_drop b a (end - start) few) ∙ ap (λ k. drop k (b ++ reverse a)) there ∙ ap (drop end) is)
    ∙ ap (λ l. l ++ (others ++ drop end v)) (sym (take_at b (reverse a) start at) ∙ ap (take start) is)
