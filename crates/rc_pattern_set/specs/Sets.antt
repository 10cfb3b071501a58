-- What callers see of a set of patterns: for each number below its capacity, whether it is a member.
use Rattle.std.specs.Prelude.{◌≡◌, ℕ, ◌+◌, Bool, true, false, List, [], ◌∷◌, Some, slice_get}
use Rattle.rc_pattern_set.specs.declared.sets.PatternSetIter.{PatternSetIter}

-- the pattern is a member
abbrev pub Has : List Bool → ℕ → Type 0
Has set p = slice_get set p ≡ Some true

-- the members, the least first, where the list's first number is n
abbrev pub members_from : ℕ → List Bool → List ℕ
members_from n [] = []
members_from n (true ∷ set) = n ∷ members_from (n + 1) set
members_from n (false ∷ set) = members_from (n + 1) set

-- the members, the least first
abbrev pub members : List Bool → List ℕ
members = members_from 0

-- the members that an iterator has left
abbrev pub members_left : PatternSetIter → List ℕ
members_left i = members_from i.next i.left.now
