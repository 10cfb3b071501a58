-- The definitions, run on worked rows.
use Rattle.std.proofs.Common.{◌≡◌, ℕ, List, [], ◌∷◌, Option, Some, None, refl, codes}
use Rattle.rc_captures.specs.Names.{Names, slot_len, implicit_slot_len, group_len, slots, to_index, to_name}
use Rattle.rc_captures.specs.Captures.{slot_value, span_of}

-- `a(b)` and `(c)(d)`
abbrev two : Names
two = (None ∷ []) ∷ (None ∷ None ∷ []) ∷ []

two_slots : slot_len two ≡ 10
two_slots = refl

two_whole : implicit_slot_len two ≡ 4
two_whole = refl

whole_of_second : slots two 1 0 ≡ Some (2, 3)
whole_of_second = refl

group_of_first : slots two 0 1 ≡ Some (4, 5)
group_of_first = refl

last_group : slots two 1 2 ≡ Some (8, 9)
last_group = refl

no_group : slots two 0 2 ≡ None
no_group = refl

no_pattern : slots two 2 0 ≡ None
no_pattern = refl

groups_of_second : group_len two 1 ≡ 3
groups_of_second = refl

groups_of_none : group_len two 2 ≡ 0
groups_of_none = refl

-- `(?P<y>\d+)-(\d+)`
abbrev dated : Names
dated = (Some (codes "y") ∷ None ∷ []) ∷ []

named : to_index dated 0 (codes "y") ≡ Some 1
named = refl

unnamed : to_index dated 0 (codes "n") ≡ None
unnamed = refl

name_of_first : to_name dated 0 1 ≡ Some (codes "y")
name_of_first = refl

no_name : to_name dated 0 0 ≡ None
no_name = refl

-- of two groups of one name the first is found
twice : to_index ((None ∷ Some (codes "n") ∷ Some (codes "n") ∷ []) ∷ []) 0 (codes "n") ≡ Some 2
twice = refl

-- what that pattern leaves on `12-345`
abbrev kept : List (Option ℕ)
kept = Some 0 ∷ Some 6 ∷ Some 0 ∷ Some 2 ∷ Some 3 ∷ Some 6 ∷ []

second_group : span_of (slot_value kept 4) (slot_value kept 5) ≡ Some (record { start = 3; end = 6 })
second_group = refl

half_a_group : span_of (Some 3) None ≡ None
half_a_group = refl

past_the_slots : slot_value kept 6 ≡ None
past_the_slots = refl
