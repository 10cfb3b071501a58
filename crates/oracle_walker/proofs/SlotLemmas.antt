-- The slots of a walk, noted one by one.
use Rattle.std.proofs.Common.{◌≡◌, ℕ, zero, suc, ◌+◌, ◌*◌, ◌<◌, List, [], ◌∷◌, ◌++◌, length, map, take, set, replicate, get_or, false, Option, Some, None, nat_eq, sym, ap, ap₂, ◌∙◌, refl, ⊎_elim, arith, if◌then◌else◌, ne_eqb, eq-eqb, slice_index_or}
use Rattle.std.specs.List.{range_with_len}
use Rattle.std.specs.Option.{option_or}
use Rattle.std.proofs.lemmas.Bool.{cases_eq}
use Rattle.std.proofs.lemmas.List.{length-set, get_or-set_same, get_or-set_other, map-append, take_more}
use Rattle.std.proofs.lemmas.List.FromFn.{length-map-range_with_len, get_or-map-range_with_len}
use Rattle.rc_walks.specs.Walks.{Pair}
use Rattle.rc_program.specs.Program.{Place, choice, byte, branch, scalar, guard, slot, accept, place_at}
use Rattle.oracle_walker.specs.Frames.{pair_of, slot_name}
use Rattle.oracle_walker.specs.declared.frames.Frame.{Frame}
use Rattle.std.proofs.lemmas.Option.{none-some, same_Some}
use Rattle.rc_program.specs.Answer.{Search, Chosen, last_visit, last_of, names, pattern_of, slots_of}

-- lists are equal where they are equally long and have the same elements
pub same_slots : (xs ys : List (Option ℕ)) → length xs ≡ length ys → ((k : ℕ) → k < length xs → get_or xs k None ≡ get_or ys k None) → xs ≡ ys
same_slots [] [] e h = refl
same_slots [] (y ∷ ys) e h = absurd (omega (arith, e))
same_slots (x ∷ xs) [] e h = absurd (omega (arith, e))
same_slots (x ∷ xs) (y ∷ ys) e h =
    ap₂ (λ z zs. z ∷ zs) (h 0 (omega arith)) (same_slots xs ys (omega (arith, e)) (λ k l. h (suc k) (omega (arith, l))))

pub map_same : (f g : ℕ → Option ℕ) → ((k : ℕ) → f k ≡ g k) → (xs : List ℕ) → map f xs ≡ map g xs
map_same f g h [] = refl
map_same f g h (x ∷ xs) = ap₂ (λ z zs. z ∷ zs) (h x) (map_same f g h xs)

-- one slot written
abbrev pub with_slot : (ℕ → Option ℕ) → ℕ → Option ℕ → ℕ → Option ℕ
with_slot f j v k = if nat_eq k j then v else f k

pub set_slot : (f : ℕ → Option ℕ) (n j : ℕ) (v : Option ℕ) →
    set (map f (range_with_len 0 n)) j v ≡ map (with_slot f j v) (range_with_len 0 n)
set_slot f n j v =
    let xs = map f (range_with_len 0 n) in
    let long : length xs ≡ n = length-map-range_with_len f 0 n in
    let long2 : length (map (with_slot f j v) (range_with_len 0 n)) ≡ n = length-map-range_with_len (with_slot f j v) 0 n in
    same_slots (set xs j v) (map (with_slot f j v) (range_with_len 0 n)) (length-set xs j v ∙ long ∙ sym long2)
    (λ k l. let m : k < n = let s = length-set xs j v in omega (arith, l, s, long) in
    let right : get_or (map (with_slot f j v) (range_with_len 0 n)) k None ≡ with_slot f j v k = get_or-map-range_with_len (with_slot f j v) 0 n k k None m (omega arith) in
    ⊎_elim
    (λ e. let at : get_or (set xs j v) k None ≡ v = ap (λ i. get_or (set xs j v) i None) e ∙ get_or-set_same xs j v None (omega (arith, long, m, e)) in
    at ∙ sym (right ∙ (rw (eq-eqb k j e) refl)))
    (λ ne. get_or-set_other xs j k v None ne ∙ get_or-map-range_with_len f 0 n k k None m (omega arith) ∙ sym (right ∙ (rw (ne_eqb k j ne) refl)))
    (cases_eq k j))

-- an empty slot
abbrev nothing : Option ℕ
nothing = None

-- no slot written
pub no_slots : (n : ℕ) → replicate n nothing ≡ map (λ (k : ℕ). nothing) (range_with_len 0 n)
no_slots n = from 0 n
  where
    from : (a n : ℕ) → replicate n nothing ≡ map (λ (k : ℕ). nothing) (range_with_len a n)
    from a zero = refl
    from a (suc n) = ap (λ xs. None ∷ xs) (from (a + 1) n)

option_or-assoc : (a b c : Option ℕ) → option_or (option_or a b) c ≡ option_or a (option_or b c)
option_or-assoc None b c = refl
option_or-assoc (Some x) b c = refl

option_or-none : (a : Option ℕ) → option_or a None ≡ a
option_or-none None = refl
option_or-none (Some x) = refl

-- the last visit of a longer walk
visit_more : (places : List Place) (k : ℕ) (w : List Pair) (n : Pair) →
    last_visit places k (w ++ n ∷ []) ≡ option_or (if names (place_at places n.0) k then Some n.1 else None) (last_visit places k w)
visit_more places k [] n = sym (option_or-none (if names (place_at places n.0) k then Some n.1 else None))
visit_more places k (m ∷ w) n =
    ap (λ o. option_or o (if names (place_at places m.0) k then Some m.1 else None)) (visit_more places k w n)
    ∙ option_or-assoc (if names (place_at places n.0) k then Some n.1 else None) (last_visit places k w) (if names (place_at places m.0) k then Some m.1 else None)

named_by : (q : Place) (j k : ℕ) → Some j ≡ slot_name q → names q k ≡ nat_eq j k
named_by (choice ns) j k e = absurd (none-some j (sym e))
named_by (byte rs n) j k e = absurd (none-some j (sym e))
named_by (branch ts) j k e = absurd (none-some j (sym e))
named_by (scalar rs n) j k e = absurd (none-some j (sym e))
named_by (guard l n) j k e = absurd (none-some j (sym e))
named_by (slot i n) j k e = ap (λ m. nat_eq m k) (sym (same_Some j i e))
named_by (accept p) j k e = absurd (none-some j (sym e))

names_none : (q : Place) (k : ℕ) → None ≡ slot_name q → names q k ≡ false
names_none (choice ns) k e = refl
names_none (byte rs n) k e = refl
names_none (branch ts) k e = refl
names_none (scalar rs n) k e = refl
names_none (guard l n) k e = refl
names_none (slot i n) k e = absurd (none-some i e)
names_none (accept p) k e = refl

-- a visit to a place that names the slot j
visit_here : (places : List Place) (w : List Pair) (n : Pair) (j k : ℕ) → Some j ≡ slot_name (place_at places n.0) →
    with_slot (λ k. last_visit places k w) j (Some n.1) k ≡ last_visit places k (w ++ n ∷ [])
visit_here places w n j k e =
    let named = named_by (place_at places n.0) j k e in
    ⊎_elim
    (λ s. rw (eq-eqb k j s) (sym (visit_more places k w n ∙ (rw (named, eq-eqb j k (sym s)) refl))))
    (λ ne. rw (ne_eqb k j ne) (sym (visit_more places k w n ∙ (rw (named, ne_eqb j k (λ s. ne (sym s))) refl))))
    (cases_eq k j)

-- a visit to a place that names none
visit_none : (places : List Place) (w : List Pair) (n : Pair) (k : ℕ) → None ≡ slot_name (place_at places n.0) →
    last_visit places k w ≡ last_visit places k (w ++ n ∷ [])
visit_none places w n k e = sym (visit_more places k w n ∙ (rw (names_none (place_at places n.0) k e) refl))

-- what the slots hold after these visits
abbrev pub visits : List Place → ℕ → List Pair → List (Option ℕ)
visits places n w = map (λ k. last_visit places k w) (range_with_len 0 n)

pub visits_here : (places : List Place) (n : ℕ) (w : List Pair) (m : Pair) (j : ℕ) → Some j ≡ slot_name (place_at places m.0) →
    set (visits places n w) j (Some m.1) ≡ visits places n (w ++ m ∷ [])
visits_here places n w m j e =
    set_slot (λ k. last_visit places k w) n j (Some m.1)
    ∙ map_same (with_slot (λ k. last_visit places k w) j (Some m.1)) (λ k. last_visit places k (w ++ m ∷ []))
    (λ k. visit_here places w m j k e) (range_with_len 0 n)

pub visits_none : (places : List Place) (n : ℕ) (w : List Pair) (m : Pair) → None ≡ slot_name (place_at places m.0) →
    visits places n w ≡ visits places n (w ++ m ∷ [])
visits_none places n w m e =
    map_same (λ k. last_visit places k w) (λ k. last_visit places k (w ++ m ∷ [])) (λ k. visit_none places w m k e) (range_with_len 0 n)

-- one more frame was looked at
pub one_more_frame : (fs : List Frame) (i : ℕ) (d : Frame) → i < length fs →
    map pair_of (take (i + 1) fs) ≡ map pair_of (take i fs) ++ pair_of (slice_index_or fs i d) ∷ []
one_more_frame fs i d l =
    ap (map pair_of) (take_more fs i d l) ∙ map-append pair_of (take i fs) (slice_index_or fs i d ∷ [])

-- a match's own two slots are written over the visits
pub own_slots : (s : Search) (c : Chosen) (n : ℕ) →
    set (set (visits s.places n c.walk) (2 * pattern_of s c + 1) (Some (last_of c.walk).1)) (2 * pattern_of s c) (Some c.start) ≡ slots_of s n c
own_slots s c n =
    let p = pattern_of s c in
    let f : ℕ → Option ℕ = λ k. last_visit s.places k c.walk in
    ap (λ xs. set xs (2 * p) (Some c.start)) (set_slot f n (2 * p + 1) (Some (last_of c.walk).1))
    ∙ set_slot (with_slot f (2 * p + 1) (Some (last_of c.walk).1)) n (2 * p) (Some c.start)
