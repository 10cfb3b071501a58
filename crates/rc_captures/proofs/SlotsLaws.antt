-- Each slot is one group's alone.
use Rattle.std.proofs.Common.{◌≡◌, ◌≢◌, ◌⊎◌, inl, inr, ◌↔◌, ℕ, zero, suc, ◌+◌, ◌-◌, ◌*◌, ◌/◌, ◌%◌, ◌<◌, ◌≤◌, List, [], ◌∷◌, length, get_or, take, Option, Some, slice_get, refl, ap, sym, arith}
use Rattle.std.proofs.lemmas.Bool.{cases_lt}
use Rattle.std.proofs.lemmas.List.{take-take}
use Rattle.std.proofs.lemmas.List.Sums.{sum_by-cons, sum_by_more, sum_by-take-le}
use Rattle.std.proofs.lemmas.Option.{cond_some, slice_get_within, slice_get-get_or, get_or_from_slice_get}
use borrow.Author.Tests.{ltb-true}
use Rattle.rc_captures.specs.Names.{Names, IsSlotOf, slots, slot_len, implicit_slot_len, explicit_len, first_slot, group_len}
use Rattle.rc_captures.proofs.Slots.{explicit_groups, first_slot_below}

-- what it says that a group has slots
slots_there : (names : Names) (p g : ℕ) (s : ℕ × ℕ) → slots names p g ≡ Some s → (g < group_len names p) × (s.0 ≡ first_slot names p g) × (s.1 ≡ first_slot names p g + 1)
slots_there names p g s is =
    let parts = cond_some _ _ _ is in
    (ltb-true _ _ parts.0, sym (ap (λ t. t.0) parts.1), sym (ap (λ t. t.1) parts.1))

-- the two slots of a group
pub slots_pair : (names : Names) (p g : ℕ) (s : ℕ × ℕ) → slots names p g ≡ Some s → (s.1 ≡ s.0 + 1) × (s.1 < slot_len names)
slots_pair names p g s is =
    let there = slots_there names p g s is in
    let below = first_slot_below names p g there.0 in
    (omega arith, omega arith)

-- the groups of a pattern end before those of a later one begin
explicit_before : (names : Names) (p q g : ℕ) → p < q → suc g < group_len names p → explicit_len (take p names) + suc g ≤ explicit_len (take q names)
explicit_before names p q g before within =
    let there = explicit_groups names p (suc g) within in
    let inside = slice_get_within names p there.0 there.1 in
    let got = ap length (get_or_from_slice_get names p there.0 [] there.1) in
    let more = sum_by_more length names p [] inside in
    let less = sum_by-take-le length (take q names) (p + 1) in
    let same = ap explicit_len (take-take (p + 1) q names (omega arith)) in
    omega (arith, there.2)

-- the pattern of a group is there
pattern_within : (names : Names) (p g : ℕ) → g < group_len names p → p < length names
pattern_within names p g within =
    let there = explicit_groups names p g within in slice_get_within names p there.0 there.1

-- of two groups of one pattern the one of the lesser number stands first
apart_within : (names : Names) (p g q h : ℕ) → p ≡ q → (p ≢ q) ⊎ (suc g ≢ suc h) → (first_slot names p (suc g) + 1 < first_slot names q (suc h)) ⊎ (first_slot names q (suc h) + 1 < first_slot names p (suc g))
apart_within names p g q h same (inl differ) = absurd (differ same)
apart_within names p g q h same (inr differ) =
    let e = ap (λ n. explicit_len (take n names)) same in
    elim (cases_lt g h) [ inl l ↦ inl (omega arith) | inr r ↦ inr (omega arith) ]

-- one of two groups stands first
apart_by : (names : Names) (p g q h : ℕ) → g < group_len names p → h < group_len names q → (p ≢ q) ⊎ (g ≢ h) → (first_slot names p g + 1 < first_slot names q h) ⊎ (first_slot names q h + 1 < first_slot names p g)
apart_by names p zero q zero a b (inl differ) = elim (cases_lt p q) [ inl l ↦ inl (omega arith) | inr r ↦ inr (omega arith) ]
apart_by names p zero q zero a b (inr differ) = absurd (differ refl)
apart_by names p zero q (suc h) a b differ =
    let inside = pattern_within names p 0 a in inl (omega arith)
apart_by names p (suc g) q zero a b differ =
    let inside = pattern_within names q 0 b in inr (omega arith)
apart_by names p (suc g) q (suc h) a b differ =
    elim (cases_lt p q) [
      | inl l ↦ let e = explicit_before names p q g l a in inl (omega arith)
      | inr r ↦ elim (cases_lt q p) [
        | inl l ↦ let e = explicit_before names q p h l b in inr (omega arith)
        | inr u ↦ apart_within names p g q h (omega arith) differ
      ]
    ]

-- no two groups share a slot
pub slots_apart : (names : Names) (p g q h : ℕ) (s t : ℕ × ℕ) → slots names p g ≡ Some s → slots names q h ≡ Some t → (p ≢ q) ⊎ (g ≢ h) → (s.1 < t.0) ⊎ (t.1 < s.0)
slots_apart names p g q h s t is it differ =
    let one = slots_there names p g s is in
    let other = slots_there names q h t it in
    elim (apart_by names p g q h one.0 other.0 differ) [ inl l ↦ inl (omega arith) | inr r ↦ inr (omega arith) ]

-- the slots of group 0, and no others, stand below `implicit_slot_len`
whole_by : (names : Names) (p g k : ℕ) → g < group_len names p → k ≡ first_slot names p g + 1 → (k < implicit_slot_len names) ↔ (g ≡ 0)
whole_by names p zero k within is = let inside = pattern_within names p 0 within in (λ _. refl, λ _. omega arith)
whole_by names p (suc g) k within is = (λ below. absurd (omega arith), λ e. absurd (omega arith))

-- which slots are those of whole matches
pub slots_whole : (names : Names) (p g : ℕ) (s : ℕ × ℕ) → slots names p g ≡ Some s → (s.1 < implicit_slot_len names) ↔ (g ≡ 0)
slots_whole names p g s is = let there = slots_there names p g s is in whole_by names p g s.1 there.0 there.2

-- a group that is there has slots
pub slots_from : (names : Names) (p g : ℕ) (gs : List (Option (List ℕ))) → slice_get names p ≡ Some gs → g ≤ length gs → slots names p g ≡ Some (first_slot names p g, first_slot names p g + 1)
slots_from names p g gs is within = grind arith

-- the explicit group of a number, counted through all patterns
explicit_at : (names : Names) (n : ℕ) → n < explicit_len names → (p : ℕ) × (g : ℕ) × (gs : List (Option (List ℕ))) × (slice_get names p ≡ Some gs) × (g < length gs) × (n ≡ explicit_len (take p names) + g)
explicit_at [] n below = absurd (omega arith)
explicit_at (gs ∷ names) n below =
    elim (cases_lt n (length gs)) [
      | inl l ↦ (0, n, gs, refl, l, omega arith)
      | inr r ↦
          let all = sum_by-cons length gs names in
          let found = explicit_at names (n - length gs) (omega arith) in
          let before = sum_by-cons length gs (take found.0 names) in
          (suc found.0, found.1, found.2, found.3, found.4, omega (arith, found.5))
    ]

-- one of the two slots of a group
slot_in : (names : Names) (p g k m : ℕ) (gs : List (Option (List ℕ))) → slice_get names p ≡ Some gs → g ≤ length gs → m ≡ first_slot names p g → (k ≡ m) ⊎ (k ≡ m + 1) → (p : ℕ) × IsSlotOf names p k
slot_in names p g k m gs is within same one =
    let slots_are = slots_from names p g gs is within in
    elim one [
      | inl first ↦ (p, (g, (first_slot names p g, first_slot names p g + 1), slots_are, inl (omega arith)))
      | inr second ↦ (p, (g, (first_slot names p g, first_slot names p g + 1), slots_are, inr (omega arith)))
    ]

-- an even number, or an odd one
halves : (k : ℕ) → (k ≡ 2 * (k / 2)) ⊎ (k ≡ 2 * (k / 2) + 1)
halves k = elim (cases_lt (k % 2) 1) [ inl even ↦ inl (omega arith) | inr odd ↦ inr (omega arith) ]

-- each slot is one of a group
pub slots_all : (names : Names) (k : ℕ) → k < slot_len names → (p : ℕ) × IsSlotOf names p k
slots_all names k below =
    elim (cases_lt (k / 2) (length names)) [
      | inl l ↦ slot_in names (k / 2) 0 k (2 * (k / 2)) (get_or names (k / 2) []) (slice_get-get_or names (k / 2) [] l) (omega arith) refl (halves k)
      | inr r ↦
          let found = explicit_at names (k / 2 - length names) (omega arith) in
          slot_in names found.0 (suc found.1) k (2 * (k / 2)) found.2 found.3 (omega (arith, found.4)) (omega (arith, found.5)) (halves k)
    ]
