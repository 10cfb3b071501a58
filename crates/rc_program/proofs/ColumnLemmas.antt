-- The columns of slots: each slot that a place names is in the range of its region, and its column within the rows.
use Rattle.std.proofs.Common.{◌≡◌, ℕ, zero, suc, ◌+◌, ◌-◌, ◌<◌, ◌≤◌, List, [], ◌∷◌, ◌++◌, length, ⊎_elim, sym, subst, ap, ap₂, ◌∙◌, refl, arith, slice_index_or}
use Rattle.std.proofs.lemmas.Bool.{cases_eq, cases_lt, lt-ltb, le-ltb}
use Rattle.std.proofs.lemmas.List.{get_or_append_left, get_or_push}
use Rattle.rc_program.specs.Program.{Place, choice, byte, branch, scalar, guard, slot, accept, place_at}
use Rattle.rc_program.specs.Columns.{no_slots, with_slot, ranges_from, ranges_of, matches_before, match_count, range_of, IsAmong, slot_number, column_at, widest, widest_row, row_width}
use Rattle.rc_program.specs.declared.columns.SlotRange.{SlotRange}

-- the slot is in the widened range
slot_among : (r : SlotRange) (k : ℕ) → IsAmong (with_slot r k) k
slot_among r k =
    ⊎_elim (λ l. rw (lt-ltb r.last r.first l) (omega arith, omega arith)) (λ g. rw (le-ltb r.last r.first g) (omega arith, omega arith))
    (cases_lt r.last r.first)

-- and so is what was in it
still_among : (r : SlotRange) (j k : ℕ) → IsAmong r k → IsAmong (with_slot r j) k
still_among r j k h =
    ⊎_elim (λ l. absurd (omega (arith, h.0, h.1, l))) (λ g. rw (le-ltb r.last r.first g) (omega (arith, h.0), omega (arith, h.1)))
    (cases_lt r.last r.first)

-- the first of the ranges has what it is widened by
first_among : (r : SlotRange) (qs : List Place) (k : ℕ) → IsAmong r k → IsAmong (slice_index_or (ranges_from r qs) 0 no_slots) k
first_among r [] k h = h
first_among r (accept p ∷ qs) k h = h
first_among r (slot j n ∷ qs) k h = first_among (with_slot r j) qs k (still_among r j k h)
first_among r (choice ns ∷ qs) k h = first_among r qs k h
first_among r (byte rs n ∷ qs) k h = first_among r qs k h
first_among r (branch ts ∷ qs) k h = first_among r qs k h
first_among r (scalar rs n ∷ qs) k h = first_among r qs k h
first_among r (guard l n ∷ qs) k h = first_among r qs k h

abbrev pub NamesNone : Place → Type 0
NamesNone (slot k n) = ⊥
NamesNone q = Unit {0}

pub names_none : (q : Place) (k m : ℕ) → NamesNone q → q ≡ slot k m → ⊥
names_none q k m h e = subst NamesNone e h

-- a slot that a place names is in the range of the place's region
named_among : (r : SlotRange) (qs : List Place) (n k m : ℕ) → place_at qs n ≡ slot k m →
    IsAmong (slice_index_or (ranges_from r qs) (matches_before qs n) no_slots) k
named_among r [] n k m e = absurd (names_none (choice []) k m tt e)
named_among r (slot j i ∷ qs) zero k m e =
    first_among (with_slot r j) qs k (subst (λ z. IsAmong (with_slot r z) k) (sym (ap slot_number e)) (slot_among r k))
named_among r (slot j i ∷ qs) (suc n) k m e = named_among (with_slot r j) qs n k m e
named_among r (accept p ∷ qs) (suc n) k m e = named_among no_slots qs n k m e
named_among r (choice ns ∷ qs) (suc n) k m e = named_among r qs n k m e
named_among r (byte rs i ∷ qs) (suc n) k m e = named_among r qs n k m e
named_among r (branch ts ∷ qs) (suc n) k m e = named_among r qs n k m e
named_among r (scalar rs i ∷ qs) (suc n) k m e = named_among r qs n k m e
named_among r (guard l i ∷ qs) (suc n) k m e = named_among r qs n k m e
named_among r (accept p ∷ qs) zero k m e = absurd (names_none (accept p) k m tt e)
named_among r (choice ns ∷ qs) zero k m e = absurd (names_none (choice ns) k m tt e)
named_among r (byte rs i ∷ qs) zero k m e = absurd (names_none (byte rs i) k m tt e)
named_among r (branch ts ∷ qs) zero k m e = absurd (names_none (branch ts) k m tt e)
named_among r (scalar rs i ∷ qs) zero k m e = absurd (names_none (scalar rs i) k m tt e)
named_among r (guard l i ∷ qs) zero k m e = absurd (names_none (guard l i) k m tt e)

pub slot_in_range : (places : List Place) (n k m : ℕ) → place_at places n ≡ slot k m → IsAmong (range_of places (matches_before places n)) k
unfolding range_of
slot_in_range places n k m e = named_among no_slots places n k m e

-- its column is its distance from the first of that range
pub column_of : (places : List Place) (n k m : ℕ) → place_at places n ≡ slot k m →
    column_at places n + (range_of places (matches_before places n)).first ≡ k
unfolding column_at
column_of places n k m e =
    let a = slot_in_range places n k m e in
    let number : slot_number (place_at places n) ≡ k = ap slot_number e in
    omega (arith, number, a.0)

-- no range is wider than the widest
within_widest : (rs : List SlotRange) (p k : ℕ) → IsAmong (slice_index_or rs p no_slots) k →
    k - (slice_index_or rs p no_slots).first < widest rs
within_widest [] p k h = absurd (omega (arith, h.0, h.1))
within_widest (r ∷ rs) zero k h = omega (arith, h.0, h.1)
within_widest (r ∷ rs) (suc p) k h = let i = within_widest rs p k h in omega (arith, i)

-- a slot that is wanted has its column within the row
pub within_row : (places : List Place) (p k n : ℕ) → IsAmong (range_of places p) k → k < n → k - (range_of places p).first < row_width places n
unfolding range_of widest_row
within_row places p k n h l = let i = within_widest (ranges_of places) p k h in omega (arith, i, l)

-- none stands before the first
pub none_yet : (qs : List Place) → matches_before qs 0 ≡ 0
none_yet [] = refl
none_yet (accept p ∷ qs) = refl
none_yet (slot j i ∷ qs) = refl
none_yet (choice ns ∷ qs) = refl
none_yet (byte rs i ∷ qs) = refl
none_yet (branch ts ∷ qs) = refl
none_yet (scalar rs i ∷ qs) = refl
none_yet (guard a i ∷ qs) = refl

-- one more stands before the place after a match place
pub matches_more : (qs : List Place) (n : ℕ) → matches_before qs (suc n) ≡ matches_before qs n + match_count (place_at qs n)
matches_more [] n = refl
matches_more (accept p ∷ qs) zero = ap suc (none_yet qs)
matches_more (slot j i ∷ qs) zero = none_yet qs
matches_more (choice ns ∷ qs) zero = none_yet qs
matches_more (byte rs i ∷ qs) zero = none_yet qs
matches_more (branch ts ∷ qs) zero = none_yet qs
matches_more (scalar rs i ∷ qs) zero = none_yet qs
matches_more (guard a i ∷ qs) zero = none_yet qs
matches_more (accept p ∷ qs) (suc n) = let h = matches_more qs n in omega (arith, h)
matches_more (slot j i ∷ qs) (suc n) = matches_more qs n
matches_more (choice ns ∷ qs) (suc n) = matches_more qs n
matches_more (byte rs i ∷ qs) (suc n) = matches_more qs n
matches_more (branch ts ∷ qs) (suc n) = matches_more qs n
matches_more (scalar rs i ∷ qs) (suc n) = matches_more qs n
matches_more (guard a i ∷ qs) (suc n) = matches_more qs n

pub count_most : (q : Place) → match_count q ≤ 1
count_most (accept p) = omega arith
count_most (slot j i) = omega arith
count_most (choice ns) = omega arith
count_most (byte rs i) = omega arith
count_most (branch ts) = omega arith
count_most (scalar rs i) = omega arith
count_most (guard a i) = omega arith

-- the columns told so far, and one more
pub told_more : (places : List Place) (ranges : List SlotRange) (xs ys : List ℕ) (i v pattern : ℕ) → length xs ≡ i → ys ≡ xs ++ v ∷ [] →
    ranges ≡ ranges_of places → pattern ≡ matches_before places i →
    v ≡ slot_number (place_at places i) - (slice_index_or ranges pattern no_slots).first →
    ((q : ℕ) → q < i → slice_index_or xs q 0 ≡ column_at places q) → (q : ℕ) → q < i + 1 → slice_index_or ys q 0 ≡ column_at places q
unfolding column_at range_of
told_more places ranges xs ys i v pattern len e same count is told q l =
    ap (λ zs. slice_index_or zs q 0) e
    ∙ ⊎_elim
    (λ (s : q ≡ i). subst (λ j. slice_index_or (xs ++ v ∷ []) j 0 ≡ column_at places j) (sym s)
    (get_or_push xs v 0 i len ∙ is ∙ ap₂ (λ rs p. slot_number (place_at places i) - (slice_index_or rs p no_slots).first) same count))
    (λ ne. get_or_append_left xs (v ∷ []) 0 q (omega (arith, ne, l, len)) ∙ told q (omega (arith, ne, l)))
    (cases_eq q i)
