-- A class of ASCII is one place, with a way for each range.
use Rattle.std.proofs.Common.{◌≡◌, ℕ, zero, suc, ◌+◌, ◌*◌, ◌<◌, ◌≤◌, List, [], ◌∷◌, ◌++◌, length, ap, ap₂, ◌∙◌, refl, arith, true, false, max, min, nat_le, get_or}
use Rattle.std.specs.List.{AllByRecursion}
use Rattle.rc_pattern.specs.Re.{Range}
use Rattle.rc_pattern.specs.WellFormed.{AreAscending}
use Rattle.rc_utf8.specs.Bytes.{ends, class_tree, depth, tree_of, sequences, within_bytes, pieces, all_pieces}
use Rattle.rc_utf8.proofs.ScalarLemmas.{encode_one}
use Rattle.rc_weigh.specs.Weight.{class_weight}
use Rattle.rc_weigh.proofs.LaidLemmas.{roots, inner, weight_taken}

at_most : (x y : ℕ) → x ≤ y → nat_le x y ≡ true
at_most x y h = grind (arith, h)

above : (x y : ℕ) → y < x → nat_le x y ≡ false
above x y h = grind (arith, h)

one_piece : (r : Range) → r.0 ≤ r.1 → r.1 < 128 → pieces r ≡ (max r.0 0, min r.1 0x7F) ∷ []
one_piece r up low =
    let a = at_most (max r.0 0) (min r.1 0x7F) (omega (arith, up, low)) in
    let b = above (max r.0 0x80) (min r.1 0x7FF) (omega (arith, low)) in
    let c = above (max r.0 0x800) (min r.1 0xD7FF) (omega (arith, low)) in
    let d = above (max r.0 0xE000) (min r.1 0xFFFF) (omega (arith, low)) in
    let e = above (max r.0 0x1_0000) (min r.1 0x10_FFFF) (omega (arith, low)) in
    rw a (rw b (rw c (rw d (rw e refl))))

one_way : (r : Range) (rs : List Range) → r.0 ≤ r.1 → r.1 < 128 → class_tree (r ∷ rs) ≡ ends (max r.0 0) (min r.1 0x7F) 0 (class_tree rs)
one_way r rs up low =
    ap (λ ps. tree_of (sequences (ps ++ all_pieces rs))) (one_piece r up low)
    ∙ ap₂ (λ xs ys. tree_of (within_bytes xs ys ++ sequences (all_pieces rs)))
    (encode_one (max r.0 0) (omega (arith, up, low))) (encode_one (min r.1 0x7F) (omega (arith, low)))

flat : (from : ℕ) (rs : List Range) → AreAscending from rs → AllByRecursion (λ (r : Range). r.1 < 128) rs →
    (roots (class_tree rs) ≡ length rs) × (depth (class_tree rs) ≡ 0) × (inner (class_tree rs) ≡ 0)
flat from [] up low = (refl, refl, refl)
flat from (r ∷ rs) up low =
    let e = one_way r rs up.1 low.0 in let h = flat (r.1 + 1) rs up.2 low.1 in
    rw e (omega (arith, h.0), omega (arith, h.1), omega (arith, h.2))

-- ranges that ascend are below the last one's end
all_below : (from : ℕ) (rs : List Range) (i : ℕ) (d : Range) → AreAscending from rs → length rs ≡ suc i → (get_or rs i d).1 < 128 →
    AllByRecursion (λ (r : Range). r.1 < 128) rs
all_below from [] i d up long low = tt
all_below from (r ∷ []) zero d up long low = (low, tt)
all_below from (r ∷ q ∷ rs) zero d up long low = absurd (omega (arith, long))
all_below from (r ∷ rs) (suc i) d up long low =
    let h = all_below (r.1 + 1) rs i d up.2 (omega (arith, long)) low in
    let k = few_below (r.1 + 1) rs i d up.2 (omega (arith, long)) in (omega (arith, k, low), h)
  where
    few_below : (from : ℕ) (rs : List Range) (i : ℕ) (d : Range) → AreAscending from rs → length rs ≡ suc i → from ≤ (get_or rs i d).1
    few_below from [] i d up long = absurd (omega (arith, long))
    few_below from (r ∷ rs) zero d up long = let a = up.0 in let b = up.1 in omega (arith, a, b)
    few_below from (r ∷ rs) (suc i) d up long =
        let h = few_below (r.1 + 1) rs i d up.2 (omega (arith, long)) in let a = up.0 in let b = up.1 in omega (arith, h, a, b)

pub ascii_weight : (rs : List Range) (i : ℕ) (d : Range) → AreAscending 0 rs → length rs ≡ suc i → (get_or rs i d).1 < 128 →
    class_weight rs ≡ 1 + 2 * length rs
ascii_weight rs i d up long low =
    let f = flat 0 rs up (all_below 0 rs i d up long low) in let e = weight_taken rs in omega (arith, e, f.0, f.1, f.2)
