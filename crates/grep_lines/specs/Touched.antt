-- Which lines of a text are touched by spans of it.
use Rattle.std.specs.Prelude.{ℕ, ◌+◌, ◌&&◌, Bool, true, not, List, [], ◌∷◌, if◌then◌else◌, length, max, nat_le, nat_lt}
use Rattle.std.specs.List.{list_any}
use Rattle.rc_text.specs.declared.types.Span.{Span}

-- where the span ends; an empty one takes the byte behind it
abbrev pub behind : Span → ℕ
behind s = max s.end (s.start + 1)

-- The span has a byte of the line or its terminator. An empty one has the byte behind it.
abbrev pub touches : (place : ℕ) → (line : List ℕ) → Span → Bool
touches place line s = nat_lt s.start (place + length line + 1) && nat_lt place (behind s)

abbrev pub is_touched : List Span → (place : ℕ) → (line : List ℕ) → Bool
is_touched spans place line = list_any (touches place line) spans

-- the lines that the spans touch, or the others
abbrev pub picks_touched : (inverted : Bool) → List Span → (place : ℕ) → (line : List ℕ) → Bool
picks_touched inverted spans place line = if inverted then not (is_touched spans place line) else is_touched spans place line

-- no span begins before the place, or before one that stands before it in the list
abbrev pub are_from : ℕ → List Span → Bool
are_from from [] = true
are_from from (s ∷ rest) = nat_le from s.start && are_from s.start rest

-- the spans from the first one on that doesn't end before the place
abbrev pub left_at : ℕ → List Span → List Span
left_at place [] = []
left_at place (s ∷ rest) = if nat_lt place (behind s) then s ∷ rest else left_at place rest
