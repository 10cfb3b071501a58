-- Whether the sorted table of folding has a character.
use Rattle.std.proofs.Common.{◌≡◌, ℕ, zero, suc, ◌<◌, ◌≤◌, Bool, true, false, ◌||◌, ◌==◌, nat_lt, List, [], ◌∷◌, length, slice_index_or, refl, sym, arith, eq-eqb, eqb-true, not-suc-le-zero, zero-lt-suc, suc-le-suc, le_of_suc-le-suc}
use Rattle.std.proofs.lemmas.Bool.{false_from_ne_true, eqb-false, ltb-true, ltb-false}
use Rattle.std.specs.List.{list_any}
use Rattle.std.specs.List.Sorted.{IsNonDecreasingBy}
use Rattle.rc_class_sets.proofs.SetLemmas.{or_left, or_right}

abbrev begins : ℕ → ℕ × ℕ → Bool
begins c pair = pair.0 == c

pub any_at : (c : ℕ) (folds : List (ℕ × ℕ)) (k : ℕ) → k < length folds → (slice_index_or folds k (0, 0)).0 ≡ c → list_any (begins c) folds ≡ true
any_at c [] k lt e = absurd (not-suc-le-zero lt)
any_at c (f ∷ folds) zero lt e = or_left (f.0 == c) _ (eq-eqb f.0 c e)
any_at c (f ∷ folds) (suc k) lt e = or_right (f.0 == c) _ (any_at c folds k (le_of_suc-le-suc lt) e)

or_none : (a b : Bool) → a ≡ false → b ≡ false → (a || b) ≡ false
or_none a b e f = rw e f

any_none : (c : ℕ) (folds : List (ℕ × ℕ)) → ((k : ℕ) → k < length folds → (slice_index_or folds k (0, 0)).0 ≡ c → ⊥) → list_any (begins c) folds ≡ false
any_none c [] h = refl
any_none c (f ∷ folds) h = or_none (f.0 == c) (list_any (begins c) folds)
    (false_from_ne_true (f.0 == c) (λ e. h zero (zero-lt-suc (length folds)) (eqb-true f.0 c e)))
    (any_none c folds (λ k lt e. h (suc k) (suc-le-suc lt) e))

-- those before the point are less, and the first behind it isn't the character
pub any_past : (c : ℕ) (folds : List (ℕ × ℕ)) (n : ℕ) → IsNonDecreasingBy (λ (pair : ℕ × ℕ). pair.0) folds →
    ((k : ℕ) → k < n → (slice_index_or folds k (0, 0)).0 < c) → (n < length folds → c < (slice_index_or folds n (0, 0)).0) → list_any (begins c) folds ≡ false
any_past c folds n up below above = any_none c folds (λ k lt e. go k lt e (nat_lt k n) refl)
  where
    go : (k : ℕ) → k < length folds → (slice_index_or folds k (0, 0)).0 ≡ c → (b : Bool) → nat_lt k n ≡ b → ⊥
    go k lt e true is = let less = below k (ltb-true k n is) in omega (arith, less, e)
    go k lt e false is =
        let least : n ≤ k = ltb-false k n is in
        let more = above (omega (arith, least, lt)) in
        let rising = up n k (0, 0) least lt in
        omega (arith, more, rising, e)

-- the first that isn't less tells
pub tells : (c : ℕ) (folds : List (ℕ × ℕ)) (n : ℕ) → IsNonDecreasingBy (λ (pair : ℕ × ℕ). pair.0) folds →
    ((k : ℕ) → k < n → (slice_index_or folds k (0, 0)).0 < c) → c ≤ (slice_index_or folds n (0, 0)).0 → n < length folds →
    ((slice_index_or folds n (0, 0)).0 == c) ≡ list_any (begins c) folds
tells c folds n up below least lt = go ((slice_index_or folds n (0, 0)).0 == c) refl
  where
    go : (b : Bool) → ((slice_index_or folds n (0, 0)).0 == c) ≡ b → b ≡ list_any (begins c) folds
    go true e = sym (any_at c folds n lt (eqb-true (slice_index_or folds n (0, 0)).0 c e))
    go false e = let apart = eqb-false (slice_index_or folds n (0, 0)).0 c e in
        sym (any_past c folds n up below (λ _. omega (arith, least, apart)))
