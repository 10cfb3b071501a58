-- Steps of the weighing.
use Rattle.std.proofs.Common.{◌≡◌, ℕ, zero, suc, ◌+◌, ◌*◌, ◌^◌, ◌<◌, ◌≤◌, inl, inr, min, List, [], ◌∷◌, map, length, drop, get_or, slice_get, Some, ◌-◌, ap, ap₂, ◌∙◌, sym, subst, refl, arith}
use Rattle.std.specs.Prelude.{All}
use Rattle.std.proofs.Math.Seq.{drop-cons}
use Rattle.std.proofs.Math.Nat.{mul-le-mul_right}
use Rattle.std.proofs.lemmas.Bool.{cases_lt}
use Rattle.std.proofs.lemmas.List.{get_or-map, length-map}
use Rattle.std.proofs.lemmas.List.Elements.{All-get_or}
use Rattle.std.proofs.lemmas.Option.{slice_get_within, get_or_from_slice_get}
use Rattle.rc_pattern.specs.Re.{Range}
use Rattle.rc_pattern.specs.declared.hir.ClassUnicodeRange.{ClassUnicodeRange}
use Rattle.rc_pattern.specs.Meaning.{char_range, meaning, repetition_meaning, cat_all, alt_all}
use Rattle.rc_pattern.specs.Weight.{copies_of}
use Rattle.rc_pattern.specs.WellFormed.{AreAscending, HasBounds}
use Rattle.rc_pattern.specs.declared.hir.Hir.{Hir}
use Rattle.rc_pattern.specs.declared.hir.Repetition.{Repetition, out-Repetition}
use Rattle.rc_pattern.proofs.FoldLemmas.{members_from, meaning_of_repetition}
use Rattle.rc_utf8.specs.Places.{place_of, places_of}
use Rattle.rc_utf8.specs.declared.place.BytePlace as code
use Rattle.rc_weigh.specs.Weight.{way_count, laid_out, laid_weight, sum_of_laid}

-- the places from number i on
pub places_laid : (xs : List code.BytePlace) (i : ℕ) (x : code.BytePlace) → i < length xs → x ≡ get_or xs i x →
    laid_out (places_of (drop i xs)) ≡ 1 + way_count (place_of x) + laid_out (places_of (drop (i + 1) xs))
places_laid xs i x h e = ap (λ ys. laid_out (places_of ys)) (left_from xs i x h e)
  where
    left_from : (xs : List code.BytePlace) (i : ℕ) (x : code.BytePlace) → i < length xs → x ≡ get_or xs i x → drop i xs ≡ x ∷ drop (i + 1) xs
    left_from xs i x h e = let n : suc i ≡ i + 1 = omega arith in drop-cons xs i x h ∙ ap₂ (λ y k. y ∷ drop k xs) (sym e) n

-- the members of a concatenation from number i on
pub cat_laid : (xs : List Hir) (i : ℕ) (x : Hir) → i < length xs → x ≡ get_or xs i x →
    laid_weight (cat_all (map meaning (drop i xs))) ≡ laid_weight (meaning x) + laid_weight (cat_all (map meaning (drop (i + 1) xs)))
cat_laid xs i x h e = ap (λ ys. laid_weight (cat_all ys)) (members_from xs i x h e)

pub cat_bounded : (xs : List Hir) (i : ℕ) (x : Hir) → i < length xs → x ≡ get_or xs i x → HasBounds (cat_all (map meaning (drop i xs))) →
    HasBounds (meaning x) × HasBounds (cat_all (map meaning (drop (i + 1) xs)))
cat_bounded xs i x h e ok = subst (λ ys. HasBounds (cat_all ys)) (members_from xs i x h e) ok

-- the members of an alternation from number i on
pub alt_laid : (xs : List Hir) (i : ℕ) (x : Hir) → i < length xs → x ≡ get_or xs i x →
    laid_weight (alt_all (map meaning (drop i xs))) ≡ 1 + laid_weight (meaning x) + laid_weight (alt_all (map meaning (drop (i + 1) xs)))
alt_laid xs i x h e = ap (λ ys. laid_weight (alt_all ys)) (members_from xs i x h e)

pub alt_bounded : (xs : List Hir) (i : ℕ) (x : Hir) → i < length xs → x ≡ get_or xs i x → HasBounds (alt_all (map meaning (drop i xs))) →
    HasBounds (meaning x) × HasBounds (alt_all (map meaning (drop (i + 1) xs)))
alt_bounded xs i x h e ok = subst (λ ys. HasBounds (alt_all ys)) (members_from xs i x h e) ok

-- the patterns of a list from number i on
pub list_laid : (xs : List Hir) (i : ℕ) (x : Hir) → i < length xs → x ≡ get_or xs i x →
    sum_of_laid (map meaning (drop i xs)) ≡ laid_weight (meaning x) + 3 + sum_of_laid (map meaning (drop (i + 1) xs))
list_laid xs i x h e = ap sum_of_laid (members_from xs i x h e)

pub list_bounded : (xs : List Hir) (i : ℕ) (x : Hir) → i < length xs → x ≡ get_or xs i x → All HasBounds (map meaning xs) → HasBounds (meaning x)
list_bounded xs i x h e ok =
    subst (λ y. HasBounds (meaning y)) (sym e)
    (rw (get_or-map meaning xs i x (meaning x) h) at (All-get_or HasBounds (map meaning xs) i (meaning x) (rw (length-map xs meaning) h) ok))

-- the last range
pub last_is : (xs : List ClassUnicodeRange) (x : ClassUnicodeRange) → slice_get xs (length xs - 1) ≡ Some x →
    (i : ℕ) × (length (map char_range xs) ≡ suc i) × (get_or (map char_range xs) i (char_range x) ≡ char_range x)
last_is xs x here =
    let inside = slice_get_within xs (length xs - 1) x here in
    let long = length-map xs char_range in
    let at = get_or_from_slice_get xs (length xs - 1) x x here in
    (length xs - 1, omega (arith, inside, long), get_or-map char_range xs (length xs - 1) x (char_range x) inside ∙ ap char_range at)

-- ranges that ascend are no more than the numbers up to the last one's end
few_ranges : (from : ℕ) (rs : List Range) (i : ℕ) (d : Range) → AreAscending from rs → length rs ≡ suc i → from + i ≤ (get_or rs i d).1
few_ranges from [] i d up long = absurd (omega (arith, long))
few_ranges from (r ∷ rs) zero d up long = let a = up.0 in let b = up.1 in omega (arith, a, b)
few_ranges from (r ∷ rs) (suc i) d up long =
    let h = few_ranges (r.1 + 1) rs i d up.2 (omega (arith, long)) in let a = up.0 in let b = up.1 in omega (arith, h, a, b)

pub few : (xs : List ClassUnicodeRange) (x : ClassUnicodeRange) → slice_get xs (length xs - 1) ≡ Some x → AreAscending 0 (map char_range xs) →
    length (map char_range xs) ≤ x.end + 1
few xs x here up =
    let l = last_is xs x here in
    let h = few_ranges 0 (map char_range xs) l.0 (char_range x) up l.1 in
    let e = ap (λ (r : Range). r.1) l.2 in let long = l.1 in omega (arith, h, e, long)

-- capping a body's weight first changes no capped weight of a repetition
capped_copies : (n w cap : ℕ) → 1 ≤ n → min (n * (min w cap + 2) + 2) cap ≡ min (n * (w + 2) + 2) cap
capped_copies n w cap some =
    elim (cases_lt w cap) as (λ _. min (n * (min w cap + 2) + 2) cap ≡ min (n * (w + 2) + 2) cap) [
      | inl below ↦ (let e : min w cap ≡ w = omega arith in rw e refl)
      | inr above ↦
          (let e : min w cap ≡ cap = omega arith in
          let a : 1 * (cap + 2) ≤ n * (cap + 2) = mul-le-mul_right (cap + 2) some in
          let b : 1 * (w + 2) ≤ n * (w + 2) = mul-le-mul_right (w + 2) some in
          rw e (omega (arith, a, b)))
    ]

-- a repetition's capped weight from its body's
pub repetition_laid : (r : Repetition) (sub : Hir) (n w : ℕ) → sub ≡ (out-Repetition r).sub.value → n ≡ copies_of (out-Repetition r).min (out-Repetition r).max →
    1 ≤ n → w ≡ min (laid_weight (meaning sub)) (2 ^ 64) → min (n * (w + 2) + 2) (2 ^ 64) ≡ min (laid_weight (repetition_meaning r)) (2 ^ 64)
repetition_laid r sub n w s c some e =
    let body = laid_weight (meaning (out-Repetition r).sub.value) in
    let f : w ≡ min body (2 ^ 64) = e ∙ ap (λ (h : Hir). min (laid_weight (meaning h)) (2 ^ 64)) s in
    rw f (capped_copies n body (2 ^ 64) some) ∙ ap (λ k. min (k * (body + 2) + 2) (2 ^ 64)) c
    ∙ ap (λ h. min (laid_weight h) (2 ^ 64)) (sym (meaning_of_repetition r))
