-- Ranges that are put in the order of where they begin are joined in one pass, and the answer is the same.
use Rattle.std.proofs.Common.{◌≡◌, ℕ, zero, suc, ◌+◌, ◌<◌, ◌≤◌, ◌⊎◌, inl, inr, ⊎_elim, Bool, true, false, ◌==◌, nat_lt, List, [], ◌∷◌, length, get_or, max, min, refl, ap₂, sym, subst, arith, if◌then◌else◌, Contains}
use Rattle.std.specs.List.Sorted.{IsPermutation, IsNonDecreasingBy}
use Rattle.std.proofs.lemmas.Bool.{ltb-true, ltb-false, eqb-true}
use Rattle.std.proofs.lemmas.List.Sorted.{All-permutation, Contains-permutation, IsPermutation-map, IsPermutation-sym}
use Rattle.rc_pattern.specs.Re.{Range}
use Rattle.rc_tokens.specs.ClassView.{pair, pairs}
use Rattle.rc_tokens.specs.Classes.{next, joins, canonical, is_code, AreCodes}
use Rattle.rc_tokens.specs.Members.{In, Has, InOrder}
use Rattle.rc_tokens.specs.Merged.{merges, merged}
use Rattle.rc_tokens.specs.declared.classes.CodeRange.{CodeRange}
use Rattle.rc_tokens.proofs.ClassLemmas.{IsCode, code_is, if_elim, either, max_one, next_above, canonical_codes, canonical_in_order, next_start, code_most, start_code}

-- ---- what stands in ranges

-- two lists have the same codes
abbrev pub Alike : Bool → List Range → List Range → Type 0
Alike u xs ys = (c : ℕ) → IsCode u c → Has xs c → Has ys c

pub next_least : (u : Bool) (a c : ℕ) → IsCode u c → a < c → next u a ≤ c
next_least true a c h l = if_elim (λ x. x ≤ c) (a == 0xD7FF) 0xE000 (a + 1)
    (λ e. let is = eqb-true a 0xD7FF e in ⊎_elim (λ below. absurd (omega (arith, below, is, l))) (λ (above, _). omega (arith, above)) h)
    (λ _. omega (arith, l))
next_least false a c h l = omega (arith, l)

-- ranges that touch leave no code out
touching : (u : Bool) (r q : Range) (c : ℕ) → IsCode u c → nat_lt (next u r.1) q.0 ≡ false → nat_lt (next u q.1) r.0 ≡ false →
    In (min r.0 q.0, max r.1 q.1) c → In r c ⊎ In q c
touching u r q c k e f (low, high) = go (nat_lt c r.0) refl
  where
    ends : c < r.0 → (t : Bool) → nat_lt q.1 c ≡ t → c ≤ q.1
    ends l true g = let past = next_least u q.1 c k (ltb-true q.1 c g) in let near = ltb-false (next u q.1) r.0 f in absurd (omega (arith, past, near, l))
    ends l false g = ltb-false q.1 c g

    above : r.0 ≤ c → (t : Bool) → nat_lt r.1 c ≡ t → In r c ⊎ In q c
    above l true g =
        let more = ltb-true r.1 c g in
        let past = next_least u r.1 c k more in
        let near = ltb-false (next u r.1) q.0 e in inr (omega (arith, past, near), omega (arith, high, more))
    above l false g = inl (l, ltb-false r.1 c g)

    go : (t : Bool) → nat_lt c r.0 ≡ t → In r c ⊎ In q c
    go true g = let l = ltb-true c r.0 g in inr (omega (arith, low, l), ends l (nat_lt q.1 c) refl)
    go false g = above (ltb-false c r.0 g) (nat_lt r.1 c) refl

-- ---- ranges put in one by one

joins_to : (u : Bool) (r : Range) (rs : List Range) (c : ℕ) → IsCode u c → Has (joins u r rs) c → Has (r ∷ rs) c
joins_to u r [] c k g = g
joins_to u r (q ∷ qs) c k g =
    if_elim (λ xs. Has xs c → Has (r ∷ q ∷ qs) c) (nat_lt (next u r.1) q.0) (r ∷ q ∷ qs) (if nat_lt (next u q.1) r.0 then q ∷ joins u r qs else joins u (min r.0 q.0, max r.1 q.1) qs)
    (λ _ g. g)
    (λ e. if_elim (λ xs. Has xs c → Has (r ∷ q ∷ qs) c) (nat_lt (next u q.1) r.0) (q ∷ joins u r qs) (joins u (min r.0 q.0, max r.1 q.1) qs)
    (λ _. ⊎_elim (λ w. inr (inl w)) (λ t. ⊎_elim (λ w. inl w) (λ m. inr (inr m)) (joins_to u r qs c k t)))
    (λ f t. ⊎_elim (λ w. ⊎_elim (λ x. inl x) (λ x. inr (inl x)) (touching u r q c k e f w)) (λ m. inr (inr m)) (joins_to u (min r.0 q.0, max r.1 q.1) qs c k t))) g

joins_from : (u : Bool) (r : Range) (rs : List Range) (c : ℕ) → Has (r ∷ rs) c → Has (joins u r rs) c
joins_from u r [] c g = g
joins_from u r (q ∷ qs) c g =
    if_elim (λ xs. Has xs c) (nat_lt (next u r.1) q.0) (r ∷ q ∷ qs) (if nat_lt (next u q.1) r.0 then q ∷ joins u r qs else joins u (min r.0 q.0, max r.1 q.1) qs)
    (λ _. g)
    (λ _. if_elim (λ xs. Has xs c) (nat_lt (next u q.1) r.0) (q ∷ joins u r qs) (joins u (min r.0 q.0, max r.1 q.1) qs)
    (λ _. ⊎_elim (λ w. inr (joins_from u r qs c (inl w))) (λ m. ⊎_elim (λ w. inl w) (λ t. inr (joins_from u r qs c (inr t))) m) g)
    (λ _. joins_from u (min r.0 q.0, max r.1 q.1) qs c
    (⊎_elim (λ (a, b). inl (omega (arith, a), omega (arith, b))) (λ m. ⊎_elim (λ (a, b). inl (omega (arith, a), omega (arith, b))) (λ t. inr t) m) g)))

pub canonical_to : (u : Bool) (rs : List Range) → Alike u (canonical u rs) rs
canonical_to u [] c k g = g
canonical_to u (r ∷ rs) c k g = ⊎_elim (λ w. inl w) (λ t. inr (canonical_to u rs c k t)) (joins_to u r (canonical u rs) c k g)

pub canonical_from : (u : Bool) (rs : List Range) → Alike u rs (canonical u rs)
canonical_from u [] c k g = g
canonical_from u (r ∷ rs) c k g = joins_from u r (canonical u rs) c (⊎_elim (λ w. inl w) (λ t. inr (canonical_from u rs c k t)) g)

-- ---- ranges in the order of where they begin

abbrev Rising : ℕ → List Range → Type 0
Rising n [] = Unit {0}
Rising n (r ∷ rs) = (n ≤ r.0) × Rising r.0 rs

rise_from : (m n : ℕ) (rs : List Range) → m ≤ n → Rising n rs → Rising m rs
rise_from m n [] l h = tt
rise_from m n (r ∷ rs) l h = (omega (arith, l, h.0), h.1)

merges_to : (u : Bool) (r : Range) (rs : List Range) (c : ℕ) → IsCode u c → Rising r.0 rs → Has (merges u r rs) c → Has (r ∷ rs) c
merges_to u r [] c k h g = g
merges_to u r (q ∷ qs) c k h g =
    if_elim (λ xs. Has xs c → Has (r ∷ q ∷ qs) c) (nat_lt (next u r.1) q.0) (r ∷ merges u q qs) (merges u (r.0, max r.1 q.1) qs)
    (λ _. ⊎_elim (λ w. inl w) (λ t. inr (merges_to u q qs c k h.1 t)))
    (λ e t. ⊎_elim (λ w. split e w (nat_lt r.1 c) refl) (λ m. inr (inr m)) (merges_to u (r.0, max r.1 q.1) qs c k (rise_from r.0 q.0 qs h.0 h.1) t)) g
  where
    split : nat_lt (next u r.1) q.0 ≡ false → In (r.0, max r.1 q.1) c → (t : Bool) → nat_lt r.1 c ≡ t → Has (r ∷ q ∷ qs) c
    split e (low, high) true g =
        let more = ltb-true r.1 c g in
        let past = next_least u r.1 c k more in
        let near = ltb-false (next u r.1) q.0 e in inr (inl (omega (arith, past, near), omega (arith, high, more)))
    split e (low, high) false g = inl (low, ltb-false r.1 c g)

merges_from : (u : Bool) (r : Range) (rs : List Range) (c : ℕ) → Rising r.0 rs → Has (r ∷ rs) c → Has (merges u r rs) c
merges_from u r [] c h g = g
merges_from u r (q ∷ qs) c h g =
    if_elim (λ xs. Has xs c) (nat_lt (next u r.1) q.0) (r ∷ merges u q qs) (merges u (r.0, max r.1 q.1) qs)
    (λ _. ⊎_elim (λ w. inl w) (λ t. inr (merges_from u q qs c h.1 t)) g)
    (λ _. let least = h.0 in
    merges_from u (r.0, max r.1 q.1) qs c (rise_from r.0 q.0 qs h.0 h.1)
    (⊎_elim (λ (a, b). inl (a, omega (arith, b))) (λ m. ⊎_elim (λ (a, b). inl (omega (arith, a, least), omega (arith, b))) (λ t. inr t) m) g))

merges_in_order : (u : Bool) (n : ℕ) (r : Range) (rs : List Range) → n ≤ r.0 → r.0 ≤ r.1 → Rising r.0 rs → AreCodes u rs → InOrder u n (merges u r rs)
merges_in_order u n r [] a b h g = (a, b, tt)
merges_in_order u n r (q ∷ qs) a b h g =
    if_elim (InOrder u n) (nat_lt (next u r.1) q.0) (r ∷ merges u q qs) (merges u (r.0, max r.1 q.1) qs)
    (λ e. let l = ltb-true (next u r.1) q.0 e in (a, b, merges_in_order u (suc (next u r.1)) q qs (omega (arith, l)) g.2 h.1 g.3))
    (λ _. merges_in_order u n (r.0, max r.1 q.1) qs a (omega (arith, b)) (rise_from r.0 q.0 qs h.0 h.1) g.3)

merges_codes : (u : Bool) (r : Range) (rs : List Range) → AreCodes u (r ∷ []) → AreCodes u rs → AreCodes u (merges u r rs)
merges_codes u r [] h g = h
merges_codes u r (q ∷ qs) h g =
    if_elim (AreCodes u) (nat_lt (next u r.1) q.0) (r ∷ merges u q qs) (merges u (r.0, max r.1 q.1) qs)
    (λ _. (h.0, h.1, h.2, merges_codes u q qs (g.0, g.1, g.2, tt) g.3))
    (λ _. let ordered = h.2 in
    merges_codes u (r.0, max r.1 q.1) qs (
      h.0,
      either (λ c. is_code u c ≡ true) r.1 q.1 (max r.1 q.1) (max_one r.1 q.1) h.1 g.1,
      omega (arith, ordered),
      tt,
    ) g.3)

merged_in_order : (u : Bool) (rs : List Range) → Rising 0 rs → AreCodes u rs → InOrder u 0 (merged u rs)
merged_in_order u [] h g = tt
merged_in_order u (r ∷ rs) h g = merges_in_order u 0 r rs (omega arith) g.2 h.1 g.3

merged_codes : (u : Bool) (rs : List Range) → AreCodes u rs → AreCodes u (merged u rs)
merged_codes u [] g = tt
merged_codes u (r ∷ rs) g = merges_codes u r rs (g.0, g.1, g.2, tt) g.3

merged_to : (u : Bool) (rs : List Range) → Rising 0 rs → Alike u (merged u rs) rs
merged_to u [] h c k g = g
merged_to u (r ∷ rs) h c k g = merges_to u r rs c k h.1 g

merged_from : (u : Bool) (rs : List Range) → Rising 0 rs → Alike u rs (merged u rs)
merged_from u [] h c k g = g
merged_from u (r ∷ rs) h c k g = merges_from u r rs c h.1 g

-- ---- lists in order that have the same codes are the same

at_least : (u : Bool) (n : ℕ) (rs : List Range) (c : ℕ) → InOrder u n rs → Has rs c → n ≤ c
at_least u n [] c h g = absurd g
at_least u n (r ∷ rs) c h g =
    let first = h.0 in
    let order = h.1 in
    ⊎_elim (λ (a, b). omega (arith, a, first))
    (λ t. let later = at_least u (suc (next u r.1)) rs c h.2 t in let above = next_above u r.1 in omega (arith, later, above, first, order)) g

-- the first range begins at the least code
pub first_least : (u : Bool) (n : ℕ) (q : Range) (qs : List Range) (c : ℕ) → InOrder u n (q ∷ qs) → Has (q ∷ qs) c → q.0 ≤ c
first_least u n q qs c h g = at_least u q.0 (q ∷ qs) c (omega arith, h.1, h.2) g

-- it ends no earlier than that of a list with as many codes
first_end : (u : Bool) (n : ℕ) (r q : Range) (rs qs : List Range) → InOrder u n (r ∷ rs) → InOrder u n (q ∷ qs) → AreCodes u (r ∷ rs) → AreCodes u (q ∷ qs) →
    Alike u (q ∷ qs) (r ∷ rs) → r.0 ≡ q.0 → q.1 ≤ r.1
first_end u n r q rs qs h g a b to same = go (nat_lt r.1 q.1) refl
  where
    go : (t : Bool) → nat_lt r.1 q.1 ≡ t → q.1 ≤ r.1
    go false e = ltb-false r.1 q.1 e
    go true e =
        let last = code_is u q.1 b.1 in
        let up = next_least u r.1 q.1 last (ltb-true r.1 q.1 e) in
        let most = code_most u q.1 last in
        let above = next_above u r.1 in
        let order = h.1 in
        let code = start_code u (next u r.1) q.1 (next_start u r.1 (code_is u r.1 a.1)) most up in
        ⊎_elim (λ (x, y). absurd (omega (arith, y, above)))
        (λ t. let later = at_least u (suc (next u r.1)) rs (next u r.1) h.2 t in absurd (omega (arith, later)))
        (to (next u r.1) code (inl (omega (arith, above, order, same), up)))

-- what stands after the first range
rest_alike : (u : Bool) (n : ℕ) (r q : Range) (rs qs : List Range) → InOrder u n (r ∷ rs) → r.1 ≡ q.1 → Alike u (r ∷ rs) (q ∷ qs) → Alike u rs qs
rest_alike u n r q rs qs h same to c k g =
    let later = at_least u (suc (next u r.1)) rs c h.2 g in
    let above = next_above u r.1 in
    ⊎_elim (λ (a, b). absurd (omega (arith, later, above, b, same))) (λ t. t) (to c k (inr g))

unique : (u : Bool) (n m : ℕ) (xs ys : List Range) → InOrder u n xs → InOrder u m ys → AreCodes u xs → AreCodes u ys → Alike u xs ys → Alike u ys xs → xs ≡ ys
unique u n m [] [] h g a b to from = refl
unique u n m [] (q ∷ qs) h g a b to from = absurd (from q.0 (code_is u q.0 b.0) (inl (omega arith, g.1)))
unique u n m (r ∷ rs) [] h g a b to from = absurd (to r.0 (code_is u r.0 a.0) (inl (omega arith, h.1)))
unique u n m (r ∷ rs) (q ∷ qs) h g a b to from =
    ap₂ ◌∷◌ (ap₂ (λ x y. (x, y)) begins ends)
    (unique u (suc (next u r.1)) (suc (next u q.1)) rs qs h.2 g.2 a.3 b.3 (rest_alike u n r q rs qs h ends to) (rest_alike u m q r qs rs g (sym ends) from))
  where
    begins : r.0 ≡ q.0
    begins =
        let x = first_least u m q qs r.0 g (to r.0 (code_is u r.0 a.0) (inl (omega arith, h.1))) in
        let y = first_least u n r rs q.0 h (from q.0 (code_is u q.0 b.0) (inl (omega arith, g.1))) in
        omega (arith, x, y)

    ends : r.1 ≡ q.1
    ends =
        let x = first_end u 0 r q rs qs (omega arith, h.1, h.2) (omega arith, g.1, g.2) a b from begins in
        let y = first_end u 0 q r qs rs (omega arith, g.1, g.2) (omega arith, h.1, h.2) b a to (sym begins) in
        omega (arith, x, y)

-- ---- ranges in another order

has_one : (rs : List Range) (c : ℕ) → Has rs c → (r : Range) × Contains rs r × In r c
has_one [] c g = absurd g
has_one (r ∷ rs) c g = ⊎_elim (λ w. (r, (0, omega arith, refl), w)) (λ t. let p = has_one rs c t in let l = p.1.1 in (p.0, (suc p.1.0, omega (arith, l), p.1.2), p.2)) g

has_of : (rs : List Range) (c : ℕ) (r : Range) (k : ℕ) → k < length rs → get_or rs k r ≡ r → In r c → Has rs c
has_of [] c r k l e w = absurd (omega (arith, l))
has_of (q ∷ qs) c r zero l e w = inl (subst (λ x. In x c) (sym e) w)
has_of (q ∷ qs) c r (suc k) l e w = inr (has_of qs c r k (omega (arith, l)) e w)

moved : (u : Bool) (xs ys : List Range) → IsPermutation xs ys → Alike u xs ys
moved u xs ys p c k g = let o = has_one xs c g in let at = Contains-permutation xs ys o.0 p o.1 in has_of ys c o.0 at.0 at.1 at.2 o.2

abbrev Ends : Bool → Range → Type 0
Ends u r = (is_code u r.0 ≡ true) × (is_code u r.1 ≡ true) × (r.0 ≤ r.1)

all_from : (u : Bool) (rs : List Range) → AreCodes u rs → (k : ℕ) (d : Range) → k < length rs → Ends u (get_or rs k d)
all_from u [] h k d l = absurd (omega (arith, l))
all_from u (r ∷ rs) h zero d l = (h.0, h.1, h.2)
all_from u (r ∷ rs) h (suc k) d l = all_from u rs h.3 k d (omega (arith, l))

codes_from : (u : Bool) (rs : List Range) → ((k : ℕ) (d : Range) → k < length rs → Ends u (get_or rs k d)) → AreCodes u rs
codes_from u [] h = tt
codes_from u (r ∷ rs) h = let f = h 0 r (omega arith) in (f.0, f.1, f.2, codes_from u rs (λ k d l. h (suc k) d (omega (arith, l))))

moved_codes : (u : Bool) (xs ys : List Range) → IsPermutation xs ys → AreCodes u xs → AreCodes u ys
moved_codes u xs ys p h = codes_from u ys (All-permutation (Ends u) xs ys p (all_from u xs h))

rising : (n : ℕ) (rs : List CodeRange) → ((k : ℕ) (d : CodeRange) → k < length rs → n ≤ (get_or rs k d).start) → IsNonDecreasingBy (λ (r : CodeRange). r.start) rs → Rising n (pairs rs)
rising n [] low h = tt
rising n (r ∷ rs) low h = (
  low 0 r (omega arith),
  rising r.start rs (λ k d l. h 0 (suc k) d (omega arith) (omega (arith, l))) (λ i j d l m. h (suc i) (suc j) d (omega (arith, l)) (omega (arith, m))),
)

pub merged_sorted : (u : Bool) (xs ys : List CodeRange) → AreCodes u (pairs xs) → IsPermutation xs ys → IsNonDecreasingBy (λ (r : CodeRange). r.start) ys →
    merged u (pairs ys) ≡ canonical u (pairs xs)
merged_sorted u xs ys before p s =
    unique u 0 0 (merged u (pairs ys)) (canonical u (pairs xs)) (merged_in_order u (pairs ys) order after) (canonical_in_order u (pairs xs) before) (merged_codes u (pairs ys) after)
    (canonical_codes u (pairs xs) before)
    (λ c k g. canonical_from u (pairs xs) c k (moved u (pairs ys) (pairs xs) (IsPermutation-sym (pairs xs) (pairs ys) same) c k (merged_to u (pairs ys) order c k g)))
    (λ c k g. merged_from u (pairs ys) order c k (moved u (pairs xs) (pairs ys) same c k (canonical_to u (pairs xs) c k g)))
  where
    same : IsPermutation (pairs xs) (pairs ys)
    same = IsPermutation-map pair xs ys p

    after : AreCodes u (pairs ys)
    after = moved_codes u (pairs xs) (pairs ys) same before

    order : Rising 0 (pairs ys)
    order = rising 0 ys (λ k d l. omega arith) s

-- one range, or none, is in order
pub canonical_few : (u : Bool) (xs : List CodeRange) → length xs ≤ 1 → canonical u (pairs xs) ≡ pairs xs
canonical_few u [] h = refl
canonical_few u (x ∷ []) h = refl
canonical_few u (x ∷ y ∷ xs) h = absurd (omega (arith, h))
