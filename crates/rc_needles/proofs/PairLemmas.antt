-- Bytes side by side, as bits.
use Rattle.std.proofs.Common.{◌≡◌, ℕ, ◌+◌, ◌-◌, ◌%◌, ◌^◌, ◌<◌, ◌≤◌, List, map, take, length, length-take, eqb, get_or, replicate, cond, false, slice_index, bit_and, subst, inl, inr, ap, sym, refl, ◌∙◌, arith, w8}
use Rattle.std.specs.Int.{bit_at}
use Rattle.std.specs.Simd.Lanes.{chunk, mask_l, top, zip2}
use Rattle.std.proofs.lemmas.Bool.{cases_lt, eq-eqb}
use Rattle.std.proofs.lemmas.List.{ext_get_or, get_or-map, get_or-take, length-map}
use Rattle.std.proofs.lemmas.Nat.Bits.{bit_at_and, bit_at-zero}
use Rattle.std.proofs.lemmas.Simd.{bitmask_splat, bit_mask_l, mask_l-lt, length-chunk, get_or-chunk}
use Rattle.rc_needles.specs.Pairs.{HasPair, HasBegun}
use Rattle.rc_needles.specs.Tables.{Agrees}
use Rattle.rc_needles.proofs.ScanLemmas.{begun}

-- a lane that holds the byte sets its bit
pub marked : (xs : List ℕ) (at byte k : ℕ) → at + 32 ≤ length xs → k < 32 → slice_index xs (at + k) ≡ byte →
    bit_at (mask_l (map (top 7) (zip2 (λ a b. cond (eqb a b) 255 0) (chunk at 32 xs) (replicate 32 byte))) % 2 ^ 64) k ≡ 1
marked xs at byte k fits small holds =
    let lanes = chunk at 32 xs in
    let long : length lanes ≡ 32 = length-chunk at 32 xs fits in
    let lane : get_or lanes k 0 ≡ byte = get_or-chunk at 32 xs k 0 small ∙ holds in
    ap (λ m. bit_at m k) (bitmask_splat w8 eqb lanes 32 byte long (omega arith))
    ∙ bit_mask_l (map (λ x. eqb x byte) lanes) k
    ∙ ap (λ b. cond b 1 0) (get_or-map (λ x. eqb x byte) lanes k 0 false (omega (arith, small, long)) ∙ eq-eqb (get_or lanes k 0) byte lane)

-- all bits lie below the 32nd
pub marks_fit : (xs : List ℕ) (at byte : ℕ) → at + 32 ≤ length xs →
    mask_l (map (top 7) (zip2 (λ a b. cond (eqb a b) 255 0) (chunk at 32 xs) (replicate 32 byte))) % 2 ^ 64 < 2 ^ 32
marks_fit xs at byte fits =
    let lanes = chunk at 32 xs in
    let long : length lanes ≡ 32 = length-chunk at 32 xs fits in
    let all : length (map (λ x. eqb x byte) lanes) ≡ 32 = length-map lanes (λ x. eqb x byte) ∙ long in
    let lt = mask_l-lt (map (λ x. eqb x byte) lanes) in
    rw (bitmask_splat w8 eqb lanes 32 byte long (omega arith)) (rw all at lt)

-- a pair sets a bit in both
pub both_set : (first second : ℕ) (xs : List ℕ) (at firsts seconds k : ℕ) →
    ((i : ℕ) → i < 32 → slice_index xs (at + i) ≡ first → bit_at firsts i ≡ 1) →
    ((i : ℕ) → i < 32 → slice_index xs (at + 1 + i) ≡ second → bit_at seconds i ≡ 1) →
    k < 32 → HasPair first second xs (at + k) → bit_at (bit_and firsts seconds) k ≡ 1
both_set first second xs at firsts seconds k one two low pair =
    let behind : at + 1 + k ≡ at + k + 1 = omega arith in
    let a : bit_at firsts k ≡ 1 = one k low pair.is_first in
    let b : bit_at seconds k ≡ 1 = two k low (ap (slice_index xs) behind ∙ pair.is_second) in
    let both = bit_at_and firsts seconds k in
    omega (arith, a, b, both)

-- a pair at each of 32 places sets its bit
abbrev pub SetsBits : ℕ → ℕ → List ℕ → ℕ → ℕ → Type 0
SetsBits first second xs at bits = (i : ℕ) → i < 32 → HasPair first second xs (at + i) → bit_at bits i ≡ 1

-- no pair stands where no bit is set
pub no_pair_from : (first second : ℕ) (xs : List ℕ) (at bits to k : ℕ) → SetsBits first second xs at bits →
    ((i : ℕ) → i < to → bit_at bits i ≡ 0) → to ≤ 32 → at ≤ k → k < at + to → ¬ HasPair first second xs k
no_pair_from first second xs at bits to k set zeros fits low high pair =
    let i : ℕ = k - at in
    let here : k ≡ at + i = omega (arith, low) in
    let one : bit_at bits i ≡ 1 = set i (omega (arith, low, high, fits)) (subst (λ j. HasPair first second xs j) here pair) in
    let zero = zeros i (omega (arith, low, high)) in
    omega (arith, one, zero)

-- nor below, where none stands before
pub no_pair_there : (first second : ℕ) (xs : List ℕ) (seen at bits to k : ℕ) → ((j : ℕ) → j < seen → ¬ HasPair first second xs j) → at ≤ seen →
    SetsBits first second xs at bits → ((i : ℕ) → i < to → bit_at bits i ≡ 0) → to ≤ 32 → k < at + to → ¬ HasPair first second xs k
no_pair_there first second xs seen at bits to k none near set zeros fits high pair =
    elim (cases_lt k seen) [
      | inl h ↦ none k h pair
      | inr g ↦ no_pair_from first second xs at bits to k set zeros fits (omega (arith, near, g)) high pair
    ]

pub none_begun : (first second : ℕ) (xs : List ℕ) (k : ℕ) → k + 1 < length xs → ¬ HasPair first second xs k → ¬ HasBegun first second xs k
none_begun first second xs k within none begun = none (record { is_first = begun.is_first; is_second = begun.is_second within })

pub zero_bits : (bits i : ℕ) → bits ≡ 0 → bit_at bits i ≡ 0
zero_bits bits i e = ap (λ m. bit_at m i) e ∙ bit_at-zero i

-- a piece doesn't go on as the rest does where the rest's first two bytes don't stand side by side
pub no_agreement : (piece rest : List ℕ) (k : ℕ) → 2 ≤ length rest → k + 1 < length piece →
    ¬ HasPair (slice_index rest 0) (slice_index rest 1) piece k → ¬ Agrees piece rest k
no_agreement piece rest k long within none agrees =
    none_begun (slice_index rest 0) (slice_index rest 1) piece k within none
    (begun (slice_index rest 0) (slice_index rest 1) piece rest k long refl refl (omega (arith, within)) agrees)

-- nor where no bit is set
pub no_agreement_there : (piece rest : List ℕ) (at bits to k : ℕ) → 2 ≤ length rest → ((j : ℕ) → j < at → ¬ Agrees piece rest j) →
    SetsBits (slice_index rest 0) (slice_index rest 1) piece at bits → ((i : ℕ) → i < to → bit_at bits i ≡ 0) → to ≤ 32 →
    at + 33 ≤ length piece → k < at + to → ¬ Agrees piece rest k
no_agreement_there piece rest at bits to k long none set zeros fits room high agrees =
    elim (cases_lt k at) [
      | inl h ↦ none k h agrees
      | inr g ↦ no_agreement piece rest k long (omega (arith, high, fits, room))
          (no_pair_from (slice_index rest 0) (slice_index rest 1) piece at bits to k set zeros fits g high) agrees
    ]

-- where it does, both have the same bytes as far as both go
pub alike : (piece rest : List ℕ) (len : ℕ) → len ≤ length piece → len ≤ length rest → Agrees piece rest 0 → take len piece ≡ take len rest
alike piece rest len here there agrees =
    let left : length (take len piece) ≡ len = simp length-take (omega (arith, here)) in
    let right : length (take len rest) ≡ len = simp length-take (omega (arith, there)) in
    ext_get_or 0 (take len piece) (take len rest) (left ∙ sym right)
    (λ i l.
    let zero : i ≡ 0 + i = omega arith in
    get_or-take len piece i 0 (omega (arith, l, left)) ∙ ap (slice_index piece) zero
    ∙ agrees i (omega (arith, l, left, there)) (omega (arith, l, left, here)) ∙ sym (get_or-take len rest i 0 (omega (arith, l, left))))
