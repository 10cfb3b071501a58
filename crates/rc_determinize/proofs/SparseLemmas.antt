-- Sparse sets.
use Rattle.std.proofs.Common.{◌≡◌, ◌≢◌, ℕ, zero, suc, ◌+◌, ◌<◌, ◌≤◌, List, [], ◌∷◌, ◌++◌, length, inl, inr, ⊎_elim, sym, subst, ap, ◌∙◌, refl, arith, true, false, true≢false, slice_index, slice_set, nat_eq, nat_lt, ne_eqb, eqb-true, eq-eqb, ltb-true, get_or-set_same, get_or-set_other, length-set}
use Rattle.std.proofs.Math.Dec.{eqb}
use Rattle.std.proofs.lemmas.Bool.{cases_lt, cases_Bool}
use Rattle.std.proofs.lemmas.List.{length_push, get_or_push, get_or_append_left}
use Rattle.std.specs.List.{IsDistinct, AllByRecursion, list_any}
use Rattle.std.specs.Bool.{MatchBool}
use Rattle.std.proofs.lemmas.Map.Steps.{length-le_from_distinct_below}
use Rattle.rc_determinize.specs.Steps.{HasPlace}
use Rattle.rc_determinize.specs.Sparse.{IsIndexed, IsSet}

-- the number is one of the members
abbrev pub Has : List ℕ → ℕ → Type 0
Has items p = HasPlace p items

pub has_at : (xs : List ℕ) (k : ℕ) → k < length xs → Has xs (slice_index xs k)
has_at [] k h = absurd (omega arith)
has_at (x ∷ xs) zero h = inl refl
has_at (x ∷ xs) (suc k) h = inr (has_at xs k (omega arith))

pub index_of : (xs : List ℕ) (p : ℕ) → Has xs p → (k : ℕ) × (k < length xs) × (slice_index xs k ≡ p)
index_of [] p h = absurd h
index_of (x ∷ xs) p h =
    ⊎_elim (λ e. (zero, omega arith, e)) (λ q. let r = index_of xs p q in (suc r.0, (let l : r.0 < length xs = r.1 in omega arith), r.2)) h

apart_all : (x : ℕ) (xs : List ℕ) → ((j : ℕ) → j < length xs → x ≢ slice_index xs j) → AllByRecursion (λ y. eqb x y ≡ false) xs
apart_all x [] h = tt
apart_all x (y ∷ ys) h = (ne_eqb _ _ (h 0 (omega arith)), apart_all x ys (λ j l. h (suc j) (omega arith)))

distinct : (xs : List ℕ) → ((i j : ℕ) → i < length xs → j < length xs → slice_index xs i ≡ slice_index xs j → i ≡ j) → IsDistinct eqb xs
unfolding IsDistinct
distinct [] h = tt
distinct (x ∷ xs) h = (
  apart_all x xs (λ j l e. let f : 0 ≡ suc j = h 0 (suc j) (omega arith) (omega arith) e in omega arith),
  distinct xs (λ i j a b e. let f : suc i ≡ suc j = h (suc i) (suc j) (omega arith) (omega arith) e in omega arith),
)

has_from_any : (q : ℕ) (xs : List ℕ) → list_any (eqb q) xs ≡ true → Has xs q
has_from_any q [] h = absurd (true≢false (sym h))
has_from_any q (x ∷ xs) h =
    ⊎_elim (λ t. inl (sym (eqb-true q x t))) (λ f. inr (has_from_any q xs (rw f at h))) (cases_Bool (eqb q x))

pub few_of : (n : ℕ) (xs : List ℕ) → ((p : ℕ) → Has xs p → p < n) →
    ((i j : ℕ) → i < length xs → j < length xs → slice_index xs i ≡ slice_index xs j → i ≡ j) → length xs ≤ n
few_of n xs below apart = length-le_from_distinct_below xs n (distinct xs apart) (λ q h. below q (has_from_any q xs h))

pub index_apart : (dense sparse : List ℕ) → IsIndexed dense sparse → (i j : ℕ) → i < length dense → j < length dense →
    slice_index dense i ≡ slice_index dense j → i ≡ j
index_apart dense sparse h i j a b e = sym (h i a).1 ∙ ap (slice_index sparse) e ∙ (h j b).1

pub index_below : (dense sparse : List ℕ) → IsIndexed dense sparse → (p : ℕ) → Has dense p → p < length sparse
index_below dense sparse h p i = let r = index_of dense p i in subst (λ x. x < length sparse) r.2 (h r.0 r.1).0

pub set_of : (dense sparse : List ℕ) → IsIndexed dense sparse → IsSet (length sparse) dense
set_of dense sparse h = record {
  below = index_below dense sparse h;
  apart = index_apart dense sparse h;
  few = few_of (length sparse) dense (index_below dense sparse h) (index_apart dense sparse h);
}

-- a number that isn't there leaves room for it
pub room_for : (dense sparse : List ℕ) (p : ℕ) → IsIndexed dense sparse → ¬ Has dense p → p < length sparse → length dense < length sparse
room_for dense sparse p h new inside =
    let all : length (p ∷ dense) ≤ length sparse = few_of (length sparse) (p ∷ dense)
    (λ q i. ⊎_elim (λ e. subst (λ x. x < length sparse) e inside) (λ r. index_below dense sparse h q r) i) apart in
    omega arith
  where
    apart : (i j : ℕ) → i < length (p ∷ dense) → j < length (p ∷ dense) → slice_index (p ∷ dense) i ≡ slice_index (p ∷ dense) j → i ≡ j
    apart zero zero a b e = refl
    apart zero (suc j) a b e = absurd (new (subst (λ x. Has dense x) (sym e) (has_at dense j (omega arith))))
    apart (suc i) zero a b e = absurd (new (subst (λ x. Has dense x) e (has_at dense i (omega arith))))
    apart (suc i) (suc j) a b e = ap suc (index_apart dense sparse h i j (omega arith) (omega arith) e)

pub indexed_push : (dense sparse : List ℕ) (p : ℕ) → IsIndexed dense sparse → ¬ Has dense p → p < length sparse →
    IsIndexed (dense ++ p ∷ []) (slice_set sparse p (length dense))
indexed_push dense sparse p h new inside k l =
    ⊎_elim
    (λ before.
    let old : slice_index (dense ++ p ∷ []) k ≡ slice_index dense k = get_or_append_left dense (p ∷ []) 0 k before in
    let other : slice_index dense k ≢ p = λ e. new (subst (λ x. Has dense x) e (has_at dense k before)) in
    (rw (old, length-set) (h k before).0, rw old (get_or-set_other sparse p (slice_index dense k) (length dense) 0 other ∙ (h k before).1)))
    (λ after.
    let l2 : k < length dense + 1 = rw length_push at l in
    let same : length dense ≡ k = omega arith in
    let last : slice_index (dense ++ p ∷ []) k ≡ p = get_or_push dense p 0 k same in
    (rw (last, length-set) inside, rw last (get_or-set_same sparse p (length dense) 0 inside ∙ same)))
    (cases_lt k (length dense))

-- what a look-up tells
pub looked_up : (dense sparse : List ℕ) (p i x : ℕ) → IsIndexed dense sparse → i ≡ slice_index sparse p →
    i < length dense → x ≡ slice_index dense i → MatchBool (nat_eq x p) (Has dense p) (¬ Has dense p)
looked_up dense sparse p i x h e l is =
    ⊎_elim
    (λ t. rw t (subst (λ y. Has dense y) (sym is ∙ eqb-true _ _ t) (has_at dense i l)))
    (λ f. rw f (λ has. let r = index_of dense p has in
    let same : i ≡ r.0 = e ∙ ap (slice_index sparse) (sym r.2) ∙ (h r.0 r.1).1 in
    true≢false (sym (eq-eqb _ _ (is ∙ ap (slice_index dense) same ∙ r.2)) ∙ f)))
    (cases_Bool (nat_eq x p))

pub not_looked_up : (dense sparse : List ℕ) (p i n : ℕ) → IsIndexed dense sparse → i ≡ slice_index sparse p →
    n ≡ length dense → n ≤ i → MatchBool (nat_lt i n) (Has dense p) (¬ Has dense p)
not_looked_up dense sparse p i n h e len past =
    ⊎_elim
    (λ t. let l : i < n = ltb-true i n t in absurd (omega arith))
    (λ f. rw f (λ has. let r = index_of dense p has in
    let same : i ≡ r.0 = e ∙ ap (slice_index sparse) (sym r.2) ∙ (h r.0 r.1).1 in
    let l : r.0 < length dense = r.1 in
    absurd (omega arith)))
    (cases_Bool (nat_lt i n))
