-- The list of entries, as it is stored on both sides of its gap.
use Rattle.std.proofs.Common.{◌≡◌, ℕ, zero, suc, ◌+◌, ◌-◌, ◌<◌, ◌≤◌, List, [], ◌∷◌, ◌++◌, length, map, min, Option, Some, None, sym, ap, ap₂, ◌∙◌, refl, arith, append_assoc}
use Rattle.std.specs.List.{slice_get}
use Rattle.std.specs.Prelude.{MatchOption}
use Rattle.std.proofs.lemmas.List.{map-append}
use Rattle.std.proofs.lemmas.Option.{none-some, same_Some}
use Rattle.live_matches.specs.Entry.{Entry}
use Rattle.live_matches.specs.declared.sides.Kept.{Kept}
use Rattle.live_matches.specs.Entries.{AreBehind, AreBelow, Rise, counted_back, entries_of, last_end, mirror, most_of, moved_by, reach_of}

-- the last of a list
pub last_at : {X : Type 0} (xs : List X) (i : ℕ) (x : X) → i + 1 ≡ length xs → slice_get xs i ≡ Some x →
    (init : List X) × (xs ≡ init ++ x ∷ [])
last_at [] i x h e = absurd (none-some x e)
last_at (y ∷ []) zero x h e = ([], ap (λ z. z ∷ []) (same_Some y x e))
last_at (y ∷ z ∷ xs) zero x h e = absurd (omega (arith, h))
last_at (y ∷ xs) (suc i) x h e = let r = last_at xs i x (omega (arith, h)) e in (y ∷ r.0, ap (λ w. y ∷ w) r.1)

there : {X : Type 0} (xs : List X) (i : ℕ) → i < length xs → slice_get xs i ≡ None → ⊥
there [] i h e = omega (arith, h)
there (x ∷ xs) zero h e = none-some x (sym e)
there (x ∷ xs) (suc i) h e = there xs i (omega (arith, h)) e

pub last_of : {X : Type 0} (xs : List X) (i : ℕ) (o : Option X) → i ≡ length xs - 1 → o ≡ slice_get xs i →
    MatchOption o (xs ≡ []) (λ x. (init : List X) × (xs ≡ init ++ x ∷ []))
last_of [] i None h e = refl
last_of [] i (Some x) h e = absurd (none-some x (sym e))
last_of (y ∷ ys) i None h e = absurd (there (y ∷ ys) i (omega (arith, h)) (sym e))
last_of (y ∷ ys) i (Some x) h e = last_at (y ∷ ys) i x (omega (arith, h)) (sym e)

-- the first of a list
pub first_is : {X : Type 0} (xs : List X) (x : X) → Some x ≡ slice_get xs 0 → (rest : List X) × (xs ≡ x ∷ rest)
first_is [] x e = absurd (none-some x (sym e))
first_is (y ∷ xs) x e = (xs, ap (λ z. z ∷ xs) (same_Some y x (sym e)))

-- one more at the end
pub entries_push : (ks : List Kept) (k : Kept) → entries_of (ks ++ k ∷ []) ≡ entries_of ks ++ k.entry ∷ []
entries_push ks k = map-append (λ k. k.entry) ks (k ∷ [])

pub end_push : (last : Option ℕ) (es : List Entry) (e : Entry) → last_end last (es ++ e ∷ []) ≡ Some e.found.end
end_push last [] e = refl
end_push last (d ∷ es) e = end_push (Some d.found.end) es e

pub most_push : (most : ℕ) (ks : List Kept) (k : Kept) → most_of most (ks ++ k ∷ []) ≡ k.most
most_push most [] k = refl
most_push most (j ∷ ks) k = most_push j.most ks k

pub rise_push : (len most : ℕ) (ks : List Kept) (k : Kept) → Rise len most ks → k.entry.found.end ≤ len → most_of most ks ≤ k.most →
    min (reach_of k.entry) 18446744073709551615 ≤ k.most → Rise len most (ks ++ k ∷ [])
rise_push len most [] k r inside over reach = (inside, over, reach, tt)
rise_push len most (j ∷ ks) k r inside over reach = (r.0, r.1, r.2, rise_push len j.most ks k r.3 inside over reach)

pub rise_pop : (len most : ℕ) (ks : List Kept) (k : Kept) → Rise len most (ks ++ k ∷ []) → Rise len most ks × (k.entry.found.end ≤ len)
rise_pop len most [] k r = (tt, r.0)
rise_pop len most (j ∷ ks) k r = let s = rise_pop len j.most ks k r.3 in ((r.0, r.1, r.2, s.0), s.1)

most_over : (len most : ℕ) (ks : List Kept) → Rise len most ks → most ≤ most_of most ks
most_over len most [] r = omega arith
most_over len most (k ∷ ks) r = let h = most_over len k.most ks r.3 in omega (arith, h, r.1)

-- the greatest of their reaches is that of each
pub below : (len most at : ℕ) (ks : List Kept) → Rise len most ks → most_of most ks ≤ at → at < 18446744073709551615 → AreBelow at (entries_of ks)
below len most at [] r over fits = tt
below len most at (k ∷ ks) r over fits =
    let h = most_over len k.most ks r.3 in
    (omega (arith, h, over, r.2, fits), below len k.most at ks r.3 over fits)

-- an entry counted back, and again
pub mirror_twice : (len : ℕ) (e : Entry) → e.found.start ≤ e.found.end → e.found.end ≤ len → mirror len (mirror len e) ≡ e
mirror_twice len e order inside =
    let a : len - (len - e.found.start) ≡ e.found.start = omega (arith, order, inside) in
    let b : len - (len - e.found.end) ≡ e.found.end = omega (arith, inside) in
    ap₂ (λ s t. record { found = record { pattern = e.found.pattern; start = s; end = t }; ahead = e.ahead }) a b

-- the gap moves back over an entry, and on
pub moved_back : (len : ℕ) (ks : List Kept) (k : Kept) (es : List Entry) → k.entry.found.start ≤ k.entry.found.end → k.entry.found.end ≤ len →
    entries_of ks ++ counted_back len (mirror len k.entry ∷ es) ≡ entries_of (ks ++ k ∷ []) ++ counted_back len es
moved_back len ks k es order inside =
    ap (λ e. entries_of ks ++ e ∷ counted_back len es) (mirror_twice len k.entry order inside)
    ∙ sym (append_assoc (entries_of ks) (k.entry ∷ []) (counted_back len es)) ∙ sym (ap (λ z. z ++ counted_back len es) (entries_push ks k))

pub moved_on : (len : ℕ) (ks : List Kept) (k : Kept) (es : List Entry) (e : Entry) → k.entry ≡ mirror len e →
    entries_of (ks ++ k ∷ []) ++ counted_back len es ≡ entries_of ks ++ counted_back len (e ∷ es)
moved_on len ks k es e same =
    ap (λ z. z ++ counted_back len es) (entries_push ks k) ∙ append_assoc (entries_of ks) (k.entry ∷ []) (counted_back len es)
    ∙ ap (λ z. entries_of ks ++ z ∷ counted_back len es) same

-- counted from the end of the edited text
edited_one : (len removed inserted : ℕ) (e : Entry) → removed < (mirror len e).found.start → (mirror len e).found.start ≤ (mirror len e).found.end →
    mirror (len - removed + inserted) e ≡ moved_by removed inserted (mirror len e)
edited_one len removed inserted e over order =
    let a : len - removed + inserted - e.found.end ≡ len - e.found.end - removed + inserted = omega (arith, over) in
    let b : len - removed + inserted - e.found.start ≡ len - e.found.start - removed + inserted = omega (arith, over, order) in
    ap₂ (λ s t. record { found = record { pattern = e.found.pattern; start = s; end = t }; ahead = e.ahead }) a b

pub behind_split : (at : ℕ) (es fs : List Entry) → AreBehind at (es ++ fs) → AreBehind at es × AreBehind at fs
behind_split at [] fs a = (tt, a)
behind_split at (e ∷ es) fs a = let r = behind_split at es fs a.2 in ((a.0, a.1, r.0), r.1)

pub edited : (len removed inserted at : ℕ) (es : List Entry) → removed ≤ at → AreBehind at (counted_back len es) →
    counted_back (len - removed + inserted) es ≡ map (moved_by removed inserted) (counted_back len es)
edited len removed inserted at [] few behind = refl
edited len removed inserted at (e ∷ es) few behind =
    ap₂ (λ x xs. x ∷ xs) (edited_one len removed inserted e (omega (arith, few, behind.0)) behind.1)
    (edited len removed inserted at es few behind.2)

-- entries that end by a place that the new text has
pub rise_on : (len next most at : ℕ) (ks : List Kept) → at ≤ next → Rise len most ks → AreBelow at (entries_of ks) → Rise next most ks
rise_on len next most at [] inside rise below = tt
rise_on len next most at (k ∷ ks) inside rise below =
    (omega (arith, inside, below.0), rise.1, rise.2, rise_on len next k.most at ks inside rise.3 below.1)
