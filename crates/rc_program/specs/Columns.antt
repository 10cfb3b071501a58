-- Columns: which cells of a thread's row the slots of groups have. A row has cells for the groups of
-- one pattern, and none for whole matches.
use Rattle.std.specs.Prelude.{◌≡◌, ℕ, zero, suc, ◌+◌, ◌-◌, ◌^◌, ◌<◌, ◌≤◌, Bool, List, [], ◌∷◌, length, IsTrue, if◌then◌else◌, nat_lt, min, max, slice_index_or}
use Rattle.rc_walks.specs.Walks.{Pair, IsIn, IsWalk}
use Rattle.rc_program.specs.Answer.{last_of}
use Rattle.rc_program.specs.Program.{Place, slot, accept, place_at, ways}
use Rattle.rc_program.specs.Text.{Text}
use Rattle.rc_program.specs.declared.columns.Columns.{Columns}
use Rattle.rc_program.specs.declared.columns.SlotRange.{SlotRange}

abbrev pub no_slots : SlotRange
no_slots = record { first = 1; last = 0 }

-- The range, widened by a slot.
abbrev pub with_slot : SlotRange → ℕ → SlotRange
with_slot r k = if nat_lt r.last r.first then record { first = k; last = k } else record { first = min r.first k; last = max r.last k }

-- The range, widened by the slot that the place names.
abbrev pub with_place : SlotRange → Place → SlotRange
with_place r (slot k n) = with_slot r k
with_place r q = r

-- For each match place, the range of the slots that are named from after the match place before it;
-- and the range of those after the last. The first is widened by r.
abbrev pub ranges_from : SlotRange → List Place → List SlotRange
ranges_from r [] = r ∷ []
ranges_from r (accept p ∷ qs) = r ∷ ranges_from no_slots qs
ranges_from r (q ∷ qs) = ranges_from (with_place r q) qs

abbrev pub ranges_of : List Place → List SlotRange
ranges_of places = ranges_from no_slots places

-- How many match places stand before place q.
abbrev pub matches_before : List Place → ℕ → ℕ
matches_before [] q = 0
matches_before (a ∷ qs) zero = 0
matches_before (accept p ∷ qs) (suc q) = suc (matches_before qs q)
matches_before (a ∷ qs) (suc q) = matches_before qs q

-- A match place counts as one.
abbrev pub match_count : Place → ℕ
match_count (accept p) = 1
match_count q = 0

-- The slots of pattern p's groups.
unfoldable pub range_of : List Place → ℕ → SlotRange
range_of places p = slice_index_or (ranges_of places) p no_slots

abbrev pub IsAmong : SlotRange → ℕ → Type 0
IsAmong r k = (r.first ≤ k) × (k ≤ r.last)

-- The number of the slot that a place names.
abbrev pub slot_number : Place → ℕ
slot_number (slot k n) = k
slot_number q = 0

-- The column of the slot that place q names: its distance from its pattern's first.
unfoldable pub column_at : List Place → ℕ → ℕ
column_at places q = slot_number (place_at places q) - (range_of places (matches_before places q)).first

-- How many slots the widest of the ranges has.
abbrev pub widest : List SlotRange → ℕ
widest [] = 0
widest (r ∷ rs) = max (r.last + 1 - r.first) (widest rs)

-- How many columns the rows have, if all slots are wanted.
unfoldable pub widest_row : List Place → ℕ
widest_row places = widest (ranges_of places)

-- How many they have, if only the first n slots are wanted.
abbrev pub row_width : List Place → ℕ → ℕ
row_width places n = min (widest_row places) n

-- The columns of the places' slots, as code has them.
pub record AreColumns (places : List Place) (c : Columns) : Type 0 where
  pub ranges : c.ranges.items ≡ ranges_of places
  pub long : length c.of_places.items ≡ length places
  pub told : (q : ℕ) → q < length places → slice_index_or c.of_places.items q 0 ≡ column_at places q
  pub wide : c.widest ≡ min (widest_row places) (2 ^ 64 - 1)

-- Each slot that a place of the walk names is in the range, and its column is the distance from the
-- first.
abbrev pub NamesOwn : List Place → SlotRange → List Pair → Type 0
NamesOwn places r w = (n : Pair) (k m : ℕ) → IsIn n w → place_at places n.0 ≡ slot k m → IsAmong r k × (column_at places n.0 + r.first ≡ k)

-- Each walk from place 0 to the match place of a pattern names slots of that pattern alone.
abbrev pub OwnSlots : List Place → Type 0
OwnSlots places = (t : Text) (hi x p : ℕ) (ends : Pair → Bool) (w : List Pair) →
    IsWalk (ways places t hi) (λ n. IsTrue (ends n)) [] ((0, x) ∷ []) w → place_at places (last_of w).0 ≡ accept p →
    NamesOwn places (range_of places p) w
