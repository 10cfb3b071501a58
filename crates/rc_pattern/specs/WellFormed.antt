-- Which patterns are well-formed.
use Rattle.std.specs.Prelude.{◌≡◌, ◌≢◌, ℕ, ◌+◌, ◌≤◌, max, List, [], ◌∷◌, ◌++◌, length, Option, Some, None}
use Rattle.std.specs.List.{range_with_len}
use Rattle.rc_pattern.specs.Re.{Re, Range, byte_in, char_in, repeat, capture, cat, alt}

-- the numbers of the groups, in the order of their opening
abbrev pub group_numbers : Re → List ℕ
group_numbers (repeat min max greedy a) = group_numbers a
group_numbers (capture n name a) = n ∷ group_numbers a
group_numbers (cat a rest) = group_numbers a ++ group_numbers rest
group_numbers (alt a rest) = group_numbers a ++ group_numbers rest
group_numbers _ = []

-- the names of the groups, in the order of their opening; `None` for a group without one
abbrev pub group_names : Re → List (Option (List ℕ))
group_names (repeat min max greedy a) = group_names a
group_names (capture n name a) = name ∷ group_names a
group_names (cat a rest) = group_names a ++ group_names rest
group_names (alt a rest) = group_names a ++ group_names rest
group_names _ = []

-- how many groups the pattern has
abbrev pub group_count : Re → ℕ
group_count h = length (group_numbers h)

-- the name is none of these
abbrev pub IsNew : Option (List ℕ) → List (Option (List ℕ)) → Type 0
IsNew None names = Unit {0}
IsNew (Some name) [] = Unit {0}
IsNew (Some name) (other ∷ names) = (other ≢ Some name) × IsNew (Some name) names

-- no name stands twice
abbrev pub AreDistinct : List (Option (List ℕ)) → Type 0
AreDistinct [] = Unit {0}
AreDistinct (name ∷ names) = IsNew name names × AreDistinct names

-- each range begins at `from` or later, and above the end of the one before, and ends where it begins or later
abbrev pub AreAscending : ℕ → List Range → Type 0
AreAscending from [] = Unit {0}
AreAscending from (r ∷ rs) = (from ≤ r.0) × (r.0 ≤ r.1) × AreAscending (r.1 + 1) rs

-- each min is at most its max, and the ranges of each class ascend
abbrev pub HasBounds : Re → Type 0
HasBounds (byte_in rs) = AreAscending 0 rs
HasBounds (char_in rs) = AreAscending 0 rs
HasBounds (repeat min None greedy a) = HasBounds a
HasBounds (repeat min (Some max) greedy a) = (min ≤ max) × HasBounds a
HasBounds (capture n name a) = HasBounds a
HasBounds (cat a rest) = HasBounds a × HasBounds rest
HasBounds (alt a rest) = HasBounds a × HasBounds rest
HasBounds _ = Unit {0}

-- the number of nodes on the longest way from the root to a leaf
abbrev pub depth : Re → ℕ
depth (repeat min most greedy a) = 1 + depth a
depth (capture n name a) = 1 + depth a
depth (cat a rest) = max (1 + depth a) (depth rest)
depth (alt a rest) = max (1 + depth a) (depth rest)
depth _ = 1

pub record IsWellFormed (h : Re) : Type 0 where
  -- the groups are numbered 1, 2, .. in the order of their opening
  pub numbered : group_numbers h ≡ range_with_len 1 (group_count h)
  pub named : AreDistinct (group_names h)
  pub bounded : HasBounds h
  pub shallow : depth h ≤ 1024
