-- Tests over texts, and numbers.
use Rattle.std.proofs.Common.{◌≡◌, ◌≢◌, ℕ, zero, suc, ◌+◌, ◌*◌, ◌<◌, ◌≤◌, Bool, true, false, ◌&&◌, nat_lt, [], ◌∷◌, Option, Some, None, length, take, drop, get_or, refl, ap, ◌∙◌, arith, ◌==◌}
use Rattle.std.proofs.lemmas.List.{drop_more, drop_all}
use Rattle.std.proofs.lemmas.Bool.{lt-ltb, le-ltb}
use Rattle.std.specs.Char.{digit_value}
use Rattle.rc_tokens.specs.Text.{Characters, ◌>>◌, each, same_text, number, value_from, is_digit_of}

times_one : (n radix : ℕ) → 0 < radix → n * 1 ≤ n * radix
times_one zero radix p = omega arith
times_one (suc n) radix p = let h = times_one n radix p in omega (arith, h, p)

pub value_grows : (t : Characters) (radix n : ℕ) → 0 < radix → n ≤ value_from radix n t
value_grows [] radix n p = omega arith
value_grows (d ∷ ds) radix n p =
    let h = value_grows ds radix (n * radix + digit_value d) p in
    let g = times_one n radix p in omega (arith, h, g)

-- the number as it is counted: digits so far, and the rest
abbrev pub read_from : ℕ → ℕ → ℕ → Characters → Option ℕ
read_from radix limit n t = (each (is_digit_of radix) t && nat_lt (value_from radix n t) limit) >> Some (value_from radix n t)

pub number_start : (t : Characters) (radix limit : ℕ) → 0 < length t → number radix limit t ≡ read_from radix limit 0 t
number_start [] radix limit h = absurd (omega (arith, h))
number_start (d ∷ ds) radix limit h = refl

pub number_empty : (t : Characters) (radix limit : ℕ) → length t ≡ 0 → number radix limit t ≡ None
number_empty [] radix limit h = refl
number_empty (d ∷ ds) radix limit h = absurd (omega (arith, h))

pub read_step : (t : Characters) (radix limit n i : ℕ) → i < length t → digit_value (get_or t i 0) < radix →
    read_from radix limit n (drop i t) ≡ read_from radix limit (n * radix + digit_value (get_or t i 0)) (drop (i + 1) t)
read_step t radix limit n i h v = ap (read_from radix limit n) (drop_more t i 0 h) ∙ rw (lt-ltb _ _ v) refl

pub read_none : (t : Characters) (radix limit n i : ℕ) → i < length t → radix ≤ digit_value (get_or t i 0) → read_from radix limit n (drop i t) ≡ None
read_none t radix limit n i h v = ap (read_from radix limit n) (drop_more t i 0 h) ∙ rw (le-ltb _ _ v) refl

pub read_large : (t : Characters) (radix limit n : ℕ) → 0 < radix → limit ≤ n → read_from radix limit n t ≡ None
read_large t radix limit n p h = let g = value_grows t radix n p in rw (le-ltb (value_from radix n t) limit (omega (arith, g, h))) (none (each (is_digit_of radix) t))
  where
    none : (b : Bool) → ((b && false) >> Some (value_from radix n t)) ≡ None
    none true = refl
    none false = refl

pub read_end : (t : Characters) (radix limit n i : ℕ) → length t ≤ i → n < limit → read_from radix limit n (drop i t) ≡ Some n
read_end t radix limit n i h v = ap (read_from radix limit n) (drop_all i t h) ∙ rw (lt-ltb _ _ v) refl

pub same_lengths : (t s : Characters) → length t ≢ length s → same_text t s ≡ false
same_lengths [] [] h = absurd (h refl)
same_lengths [] (d ∷ s) h = refl
same_lengths (c ∷ t) [] h = refl
same_lengths (c ∷ t) (d ∷ s) h = rw (same_lengths t s (λ e. h (ap suc e))) (both (c == d))
  where
    both : (b : Bool) → (b && false) ≡ false
    both true = refl
    both false = refl

pub take_few : (t : Characters) (n : ℕ) → length t ≤ n → take n t ≡ t
take_few [] zero h = refl
take_few [] (suc n) h = refl
take_few (c ∷ t) zero h = absurd (omega (arith, h))
take_few (c ∷ t) (suc n) h = ap (λ s. c ∷ s) (take_few t n (omega (arith, h)))
