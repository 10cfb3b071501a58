-- Ranges of a list.
use Rattle.std.proofs.Common.{◌≡◌, ℕ, zero, suc, ◌+◌, ◌-◌, ◌<◌, ◌≤◌, List, [], ◌∷◌, ◌++◌, length, get_or, take, drop, ap, sym, ◌∙◌, refl, arith, length-drop, length-take, take-add, slice_range, slice_get, Some, None, inl, inr, zero-le, suc-le-suc}
use Rattle.std.proofs.lemmas.Bool.{cases_lt}
use Rattle.std.proofs.lemmas.Option.{slice_get_within, get_or_from_slice_get, slice_get-get_or, slice_get_past}
use Rattle.std.proofs.lemmas.List.{get_or-drop, get_or-take, drop-drop, take_all}
use Rattle.std.proofs.Math.Seq.{take-suc}

-- a range inside the list is as long as its bounds are apart
pub length-slice_range : (xs : List ℕ) (i p : ℕ) → p ≤ length xs → length (slice_range xs i p) ≡ p - i
length-slice_range xs i p h = simp (length-take, length-drop) (omega arith)

-- an element of a range
pub get_or-slice_range : (xs : List ℕ) (i p k d : ℕ) → k < p - i → get_or (slice_range xs i p) k d ≡ get_or xs (i + k) d
get_or-slice_range xs i p k d h = rw (get_or-take, get_or-drop) refl

-- the same, where it may be past the end of the list
pub slice_get-slice_range : (xs : List ℕ) (i p k : ℕ) → k < p - i → slice_get (slice_range xs i p) k ≡ slice_get xs (i + k)
slice_get-slice_range xs i p k h =
    elim (cases_lt (i + k) (length xs)) [
      | inl within ↦
          let short : k < length (slice_range xs i p) = simp (length-take, length-drop) (omega arith) in
          slice_get-get_or (slice_range xs i p) k 0 short ∙ ap Some (get_or-slice_range xs i p k 0 h) ∙ sym (slice_get-get_or xs (i + k) 0 within)
      | inr past ↦
          let short : length (slice_range xs i p) ≤ k = simp (length-take, length-drop) (omega arith) in
          slice_get_past (slice_range xs i p) k short ∙ sym (slice_get_past xs (i + k) past)
    ]

-- two ranges side by side
pub slice_range-append : (xs : List ℕ) (i p q : ℕ) → i ≤ p → p ≤ q → slice_range xs i p ++ slice_range xs p q ≡ slice_range xs i q
slice_range-append xs i p q h k =
    let sum : q - i ≡ (p - i) + (q - p) = omega arith in
    let at : i + (p - i) ≡ p = omega arith in
    sym (rw sum (take-add (p - i) (q - p) (drop i xs) ∙ ap (λ ys. take (p - i) (drop i xs) ++ take (q - p) ys) (drop-drop (p - i) i xs ∙ ap (λ n. drop n xs) at)))

-- the bytes so far, and a piece that follows them
pub slice_range_grown : (xs items piece : List ℕ) (i p q : ℕ) → items ≡ slice_range xs i p → piece ≡ slice_range xs p q → i ≤ p → p ≤ q → items ++ piece ≡ slice_range xs i q
slice_range_grown xs items piece i p q e f h k = rw (e, f) (slice_range-append xs i p q h k)

-- a range, one element longer
pub slice_range-add_one : (xs : List ℕ) (i p b : ℕ) → i ≤ p → slice_get xs p ≡ Some b → slice_range xs i (p + 1) ≡ slice_range xs i p ++ b ∷ []
slice_range-add_one xs i p b le h =
    let low : p < length xs = slice_get_within xs p b h in
    let within : p - i < length (drop i xs) = simp length-drop (omega arith) in
    let one : p + 1 - i ≡ suc (p - i) = omega arith in
    let at : get_or (drop i xs) (p - i) 0 ≡ b =
    get_or-drop i xs (p - i) 0 ∙ ap (λ n. get_or xs n 0) (omega arith) ∙ get_or_from_slice_get xs p b 0 h
    in rw one (take-suc (drop i xs) (p - i) 0 within ∙ ap (λ x. take (p - i) (drop i xs) ++ x ∷ []) at)

-- a range that reaches the end or past it
pub slice_range_past : (xs : List ℕ) (i p q : ℕ) → length xs ≤ p → length xs ≤ q → slice_range xs i p ≡ slice_range xs i q
slice_range_past xs i p q h k =
    let low : length (drop i xs) ≤ p - i = simp length-drop (omega arith) in
    let high : length (drop i xs) ≤ q - i = simp length-drop (omega arith) in
    take_all (p - i) (drop i xs) low ∙ sym (take_all (q - i) (drop i xs) high)

-- all of a list
pub slice_range_all : (xs : List ℕ) (q : ℕ) → length xs ≤ q → slice_range xs 0 q ≡ xs
slice_range_all xs q h = ap (λ n. take n xs) (omega arith) ∙ take_all q xs h

-- an element that isn't there is past the end
pub past_of_none : (xs : List ℕ) (i : ℕ) → slice_get xs i ≡ None → length xs ≤ i
past_of_none [] i h = zero-le
past_of_none (x ∷ xs) zero h = absurd (cc)
past_of_none (x ∷ xs) (suc i) h = suc-le-suc (past_of_none xs i h)
