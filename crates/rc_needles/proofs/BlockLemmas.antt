-- Bytes side by side in vectors of 16.
use Rattle.std.proofs.Common.{◌≡◌, ℕ, ◌+◌, ◌-◌, ◌<◌, ◌≤◌, ◌∙◌, Bool, List, length, cond, eqb, false, get_or, replicate, slice_index, bit_and, bit_or, subst, sym, ap, inl, inr, arith}
use Rattle.std.specs.Simd.Lanes.{sel_l, zip2}
use Rattle.std.proofs.lemmas.Bool.{cases_lt, eq-eqb}
use Rattle.std.proofs.lemmas.Simd.{length-zip2, get_or-zip2, get_or-replicate, length-sel_l, get_or-sel_l}
use Rattle.rc_needles.specs.Pairs.{HasPair}
use Rattle.rc_needles.proofs.TeddyLemmas.{some_high, some_low}

-- 255 or 0, by the comparison with a byte
abbrev pub choice : List Bool → List ℕ
choice ms = sel_l ms (replicate 16 255) (replicate 16 0)

pub long_choice : (v : List ℕ) (x : ℕ) → length v ≡ 16 → length (choice (zip2 eqb v (replicate 16 x))) ≡ 16
long_choice v x p =
    let long : length (zip2 eqb v (replicate 16 x)) ≡ 16 = length-zip2 eqb v (replicate 16 x) p ∙ p in
    length-sel_l _ (replicate 16 255) (replicate 16 0) long long ∙ long

pub chosen : (v : List ℕ) (x k : ℕ) → length v ≡ 16 → k < 16 → get_or v k 0 ≡ x → get_or (choice (zip2 eqb v (replicate 16 x))) k 0 ≡ 255
chosen v x k p l e =
    let long : length (zip2 eqb v (replicate 16 x)) ≡ 16 = length-zip2 eqb v (replicate 16 x) p ∙ p in
    get_or-sel_l _ (replicate 16 255) (replicate 16 0) k 0 (omega (arith, l, long)) l l
    ∙ ap (λ b. cond b (get_or (replicate 16 255) k 0) (get_or (replicate 16 0) k 0))
    (get_or-zip2 eqb v (replicate 16 x) k 0 0 false (omega (arith, l, p)) l ∙ ap (eqb (get_or v k 0)) (get_or-replicate 16 k x 0 l) ∙ eq-eqb (get_or v k 0) x e)
    ∙ get_or-replicate 16 k 255 0 l

-- both bytes
pub both_chosen : (u v : List ℕ) (k : ℕ) → length u ≡ 16 → length v ≡ 16 → k < 16 → slice_index u k ≡ 255 → slice_index v k ≡ 255 → 0 < slice_index (zip2 bit_and u v) k
both_chosen u v k p q l a b =
    let e = get_or-zip2 bit_and u v k 0 0 0 (omega (arith, l, p)) (omega (arith, l, q)) ∙ ap (λ x. bit_and x (slice_index v k)) a ∙ ap (bit_and 255) b in
    omega (arith, e)

-- a pair from a place on sets the number of each of 16
abbrev pub Shows : ℕ → ℕ → List ℕ → ℕ → List ℕ → Type 0
Shows first second xs at v = (k : ℕ) → k < 16 → HasPair first second xs (at + k) → 0 < slice_index v k

pub long_or : (u v : List ℕ) → length u ≡ 16 → length v ≡ 16 → length (zip2 bit_or u v) ≡ 16
long_or u v p q = length-zip2 bit_or u v (p ∙ sym q) ∙ p

-- where all numbers are 0 no pair stands
module _ (first second : ℕ) (xs a b c d : List ℕ) (at : ℕ) (la : length a ≡ 16) (lb : length b ≡ 16) (lc : length c ≡ 16) (ld : length d ≡ 16)
    (sa : Shows first second xs at a) (sb : Shows first second xs (at + 16) b) (sc : Shows first second xs (at + 32) c) (sd : Shows first second xs (at + 48) d) where
  abbrev low : List ℕ
  low = zip2 bit_or a b

  abbrev high : List ℕ
  high = zip2 bit_or c d

  pub no_pair_in_block : ((k : ℕ) → k < 16 → 0 < slice_index (zip2 bit_or low high) k → ⊥) → (k : ℕ) → at ≤ k → k < at + 64 → ¬ HasPair first second xs k
  no_pair_in_block none k from to pair =
      let ll = long_or a b la lb in
      let lh = long_or c d lc ld in
      elim (cases_lt k (at + 16)) [
        | inl h ↦
            let i : ℕ = k - at in
            let s : i < 16 = omega (arith, from, h) in
            none i s (some_low low high i ll lh s (some_low a b i la lb s (sa i s (subst (HasPair first second xs) (omega (arith, from)) pair))))
        | inr g ↦
            elim (cases_lt k (at + 32)) [
              | inl h ↦
                  let i : ℕ = k - (at + 16) in
                  let s : i < 16 = omega (arith, g, h) in
                  none i s (some_low low high i ll lh s (some_high a b i la lb s (sb i s (subst (HasPair first second xs) (omega (arith, g)) pair))))
              | inr g ↦
                  elim (cases_lt k (at + 48)) [
                    | inl h ↦
                        let i : ℕ = k - (at + 32) in
                        let s : i < 16 = omega (arith, g, h) in
                        none i s (some_high low high i ll lh s (some_low c d i lc ld s (sc i s (subst (HasPair first second xs) (omega (arith, g)) pair))))
                    | inr g ↦
                        let i : ℕ = k - (at + 48) in
                        let s : i < 16 = omega (arith, g, to) in
                        none i s (some_high low high i ll lh s (some_high c d i lc ld s (sd i s (subst (HasPair first second xs) (omega (arith, g)) pair))))
                  ]
            ]
      ]
