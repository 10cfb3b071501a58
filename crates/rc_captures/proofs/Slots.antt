-- Where the slots of groups stand.
use Rattle.std.proofs.Common.{map, option_map, string_bytes, sym, ◌++◌, take, Vec, String, ◌≡◌, ◌≢◌, get_or, ◌∙◌, ℕ, zero, suc, ◌+◌, ◌-◌, ◌*◌, ◌<◌, ◌≤◌, List, [], ◌∷◌, length, Option, Some, None, slice_get, refl, ap, arith}
use Rattle.std.specs.Option.{option_map_or}
use Rattle.std.proofs.lemmas.Option.{slice_get-map, slice_get-get_or, slice_get_within, get_or_from_slice_get}
use Rattle.std.proofs.lemmas.List.{length-map}
use Rattle.std.proofs.lemmas.List.Sums.{sum_by_more, sum_by_more_le}
use Rattle.rc_captures.specs.Names.{names_in, explicit_len, Names, slot_len, first_slot, group_len}

-- a group that is there is one of a pattern that is there, and numbered up to its explicit groups
pub explicit_groups : (names : Names) (p g : ℕ) → g < group_len names p → (gs : List (Option (List ℕ))) × (slice_get names p ≡ Some gs) × (g ≤ length gs)
explicit_groups names p g within = of (slice_get names p) refl within where
  of : (o : Option (List (Option (List ℕ)))) → slice_get names p ≡ o → g < length (option_map_or (λ gs. None ∷ gs) o []) → (gs : List (Option (List ℕ))) × (slice_get names p ≡ Some gs) × (g ≤ length gs)
  of None is below = absurd (omega arith)
  of (Some gs) is below = (gs, is, omega arith)

-- the same, by the names of its pattern
below_by : (names : Names) (p g : ℕ) (gs : List (Option (List ℕ))) → slice_get names p ≡ Some gs → g ≤ length gs → first_slot names p g + 1 < slot_len names
below_by names p zero gs is within =
    let inside = slice_get_within names p gs is in omega arith
below_by names p (suc g) gs is within =
    let inside = slice_get_within names p gs is in
    let same = get_or_from_slice_get names p gs [] is in
    let fits = sum_by_more_le length names p [] inside in
    omega (arith, ap length same)

-- a group's slots stand below the number of slots
pub first_slot_below : (names : Names) (p g : ℕ) → g < group_len names p → first_slot names p g + 1 < slot_len names
first_slot_below names p g within =
    let there = explicit_groups names p g within in below_by names p g there.0 there.1 there.2

-- the explicit groups of a pattern stand one after another
explicit_slot : (names : Names) (p g : ℕ) → g ≢ 0 → first_slot names p 1 + 2 * (g - 1) ≡ first_slot names p g
explicit_slot names p zero positive = absurd (positive refl)
explicit_slot names p (suc g) positive = omega arith

-- the slot of an explicit group by that of its pattern's group 1, which is read from a list
pub slot_by_start : (names : Names) (p g start : ℕ) (starts : List ℕ) → g < group_len names p → g ≢ 0 → ((q : ℕ) → q < length names → slice_get starts q ≡ Some (first_slot names q 1)) → start ≡ get_or starts p start → (start + 2 * (g - 1) ≡ first_slot names p g) × (first_slot names p g + 1 < slot_len names)
slot_by_start names p g start starts within positive started read =
    let there = explicit_groups names p g within in
    let inside = slice_get_within names p there.0 there.1 in
    let is = read ∙ get_or_from_slice_get starts p (first_slot names p 1) start (started p inside) in
    (ap (λ k. k + 2 * (g - 1)) is ∙ explicit_slot names p g positive, first_slot_below names p g within)

-- one pattern more
pub explicit_len-more : {Y Z : Type 0} (vs : List (Vec (Option (String Z)) Y)) (i : ℕ) (v : Vec (Option (String Z)) Y) → i < length vs → v ≡ get_or vs i v → explicit_len (take (i + 1) (names_in vs)) ≡ explicit_len (take i (names_in vs)) + length v.items
explicit_len-more {Y} {Z} vs i v inside read =
    let named : Vec (Option (String Z)) Y → List (Option (List ℕ)) = λ w. map (option_map string_bytes) w.items in
    let inside' : i < length (names_in vs) = rw (length-map vs named) inside in
    let got = get_or_from_slice_get (names_in vs) i (named v) [] (slice_get-map named vs i ∙ ap (option_map named) (slice_get-get_or vs i v inside ∙ ap Some (sym read))) in
    sum_by_more length (names_in vs) i [] inside' ∙ ap (λ n. explicit_len (take i (names_in vs)) + n) (ap length got ∙ length-map v.items (option_map string_bytes))

-- the number that is pushed stands at its place
pub slice_get-pushed : (xs : List ℕ) (i x y : ℕ) → length xs ≡ i → x ≡ y → slice_get (xs ++ x ∷ []) i ≡ Some y
slice_get-pushed [] zero x y e same = ap Some same
slice_get-pushed [] (suc i) x y e same = absurd (omega arith)
slice_get-pushed (z ∷ xs) zero x y e same = absurd (omega arith)
slice_get-pushed (z ∷ xs) (suc i) x y e same = slice_get-pushed xs i x y (omega arith) same

-- those before it stand as they stood
pub slice_get-kept : (xs : List ℕ) (i x y : ℕ) → slice_get xs i ≡ Some y → slice_get (xs ++ x ∷ []) i ≡ Some y
slice_get-kept [] i x y e = cc
slice_get-kept (z ∷ xs) zero x y e = e
slice_get-kept (z ∷ xs) (suc i) x y e = slice_get-kept xs i x y e
