-- The groups of a list of patterns: their names, and the slots in which their bounds stand.
use Rattle.std.specs.Prelude.{◌≡◌, ◌⊎◌, ℕ, zero, suc, ◌+◌, ◌*◌, Bool, false, List, [], ◌∷◌, length, take, map, Option, Some, None, option_map, slice_get, string_bytes, if◌then◌else◌, nat_lt, position, sum_by, Vec, String}
use Rattle.std.specs.Option.{option_flatten, option_map_or}
use Rattle.std.specs.Str.{bytes_eq}

-- for each pattern the names of its groups 1, 2, .. in order; `None` for a group without one
abbrev pub Names : Type 0
Names = List (List (Option (List ℕ)))

-- the names that these texts are
abbrev pub names_in : {Y Z : Type 0} → List (Vec (Option (String Z)) Y) → Names
names_in vs = map (λ v. map (option_map string_bytes) v.items) vs

-- the names of all groups of a pattern: of group 0, which has none, and of the others; no names where there is no such pattern
abbrev pub names_at : Names → ℕ → List (Option (List ℕ))
names_at names p = option_map_or (λ gs. None ∷ gs) (slice_get names p) []

-- how many groups a pattern has, group 0 among them; 0 where there is no such pattern
abbrev pub group_len : Names → ℕ → ℕ
group_len names p = length (names_at names p)

-- the name of a group, if there is such a group and it has one
abbrev pub to_name : Names → ℕ → ℕ → Option (List ℕ)
to_name names p g = option_flatten (slice_get (names_at names p) g)

-- the group has this name
abbrev pub is_named : Option (List ℕ) → List ℕ → Bool
is_named None name = false
is_named (Some other) name = bytes_eq other name

-- the first group of that name
abbrev pub to_index : Names → ℕ → List ℕ → Option ℕ
to_index names p name = position (λ other. is_named other name) (names_at names p)

-- how many explicit groups the patterns have
abbrev pub explicit_len : Names → ℕ
explicit_len names = sum_by length names

-- how many slots the whole matches have
abbrev pub implicit_slot_len : Names → ℕ
implicit_slot_len names = 2 * length names

-- how many slots there are
abbrev pub slot_len : Names → ℕ
slot_len names = implicit_slot_len names + 2 * explicit_len names

-- the slot of a group's start. First stand those of the whole matches, by pattern, and then those of the explicit groups, by
-- pattern and then by number.
abbrev pub first_slot : Names → ℕ → ℕ → ℕ
first_slot names p zero = 2 * p
first_slot names p (suc g) = implicit_slot_len names + 2 * (explicit_len (take p names) + g)

-- the two slots of a group, if there is such a group
abbrev pub slots : Names → ℕ → ℕ → Option (ℕ × ℕ)
slots names p g = if nat_lt g (group_len names p) then Some (first_slot names p g, first_slot names p g + 1) else None

-- k is a slot of a group of pattern p
abbrev pub IsSlotOf : Names → ℕ → ℕ → Type 0
IsSlotOf names p k = (g : ℕ) × (s : ℕ × ℕ) × (slots names p g ≡ Some s) × ((k ≡ s.0) ⊎ (k ≡ s.1))
