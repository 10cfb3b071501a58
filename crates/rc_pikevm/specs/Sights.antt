-- Only proofs use this file.
-- Search parameters: all that a pass sees of a search, without its starts and what is passed over.
use Rattle.std.specs.Prelude.{ℕ, ◌≤◌, Bool, List, [], ◌∷◌, IsTrue, Option, Some, None, nat_lt}
use Rattle.rc_walks.specs.Walks.{Pair, IsFirstWalk, HasNoWalk}
use Rattle.rc_trails.specs.Limits.{ends_or_out, within}
use Rattle.rc_program.specs.Text.{Text}
use Rattle.rc_program.specs.Program.{Place, place_at, ways, is_match_place}
use Rattle.rc_program.specs.Answer.{Search, Anchoring, only}

pub record Sight : Type 0 where
  pub places : List Place
  pub text : Text
  pub hi : ℕ
  pub anchoring : Anchoring

abbrev pub sight_of : Search → Sight
sight_of s = record { places = s.places; text = s.text; hi = s.hi; anchoring = s.anchoring }

-- A walk may end here.
abbrev pub ends : Sight → Pair → Bool
ends s n = is_match_place (only s.anchoring) (place_at s.places n.0)

abbrev pub next_of : Sight → Pair → List Pair
next_of s = ways s.places s.text s.hi

-- w is the first of the walks from x.
abbrev pub IsFirstFrom : Sight → ℕ → List Pair → Type 0
IsFirstFrom s x w = IsFirstWalk (next_of s) (λ n. IsTrue (ends s n)) [] ((0, x) ∷ []) w

abbrev pub HasNoWalkFrom : Sight → ℕ → Type 0
HasNoWalkFrom s x = HasNoWalk (next_of s) (λ n. IsTrue (ends s n)) [] ((0, x) ∷ [])

-- A pass that has come to a position knows nothing of what is past it. So its steps are told for
-- walks that also end where they come past a limit, whatever the limit is; None is no limit.
abbrev pub is_past : ℕ → Pair → Bool
is_past limit n = nat_lt limit n.1

abbrev pub next_to : Option ℕ → Sight → Pair → List Pair
next_to None s = next_of s
next_to (Some limit) s = within (next_of s) (is_past limit)

abbrev pub ends_to : Option ℕ → Sight → Pair → Bool
ends_to None s = ends s
ends_to (Some limit) s = ends_or_out (ends s) (is_past limit)

-- The position isn't past the limit.
abbrev pub IsUpTo : ℕ → Option ℕ → Type 0
IsUpTo at None = Unit {0}
IsUpTo at (Some limit) = at ≤ limit

abbrev pub IsFirstTo : Option ℕ → Sight → ℕ → List Pair → Type 0
IsFirstTo limit s x w = IsFirstWalk (next_to limit s) (λ n. IsTrue (ends_to limit s n)) [] ((0, x) ∷ []) w

abbrev pub HasNoWalkTo : Option ℕ → Sight → ℕ → Type 0
HasNoWalkTo limit s x = HasNoWalk (next_to limit s) (λ n. IsTrue (ends_to limit s n)) [] ((0, x) ∷ [])
