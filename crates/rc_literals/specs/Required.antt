-- Only proofs use this file.
-- Required literals: those that are extracted from a pattern.
use Rattle.std.specs.Prelude.{◌≡◌, ℕ, zero, suc, Bool, ◌&&◌, List, [], ◌∷◌, ◌++◌, length, map, min, take, Option, Some, None, nat_lt, nat_le, if◌then◌else◌}
use Rattle.rc_pattern.specs.Re.{Re, empty, literal, byte_in, char_in, look, repeat, capture, cat, alt, none}
use Rattle.rc_pattern.specs.Meaning.{alt_all}
use Rattle.rc_literals.specs.Extraction.{greatest_copies, greatest_length, first_bytes}
use Rattle.rc_literals.specs.Literals.{literal_bytes}
use Rattle.rc_needles.specs.Tables.{IsUsable}

-- How many bytes the shortest has, or, if there is none, the most bytes of a literal that are kept.
abbrev pub shortest : List (List ℕ) → ℕ
shortest [] = greatest_length
shortest (w ∷ ws) = min (length w) (shortest ws)

-- Those of two members' needles whose shortest is longer, and the first member's if both are as
-- long.
abbrev pub better : Option (List (List ℕ)) → Option (List (List ℕ)) → Option (List (List ℕ))
better None ws = ws
better (Some vs) None = Some vs
better (Some vs) (Some ws) = if nat_lt (shortest vs) (shortest ws) then Some ws else Some vs

-- The most needles that are kept.
abbrev pub greatest_needed : ℕ
greatest_needed = 64

-- The needles of both, if both have some and these are no more than are kept.
abbrev pub joined : Option (List (List ℕ)) → Option (List (List ℕ)) → Option (List (List ℕ))
joined None ws = None
joined (Some vs) None = None
joined (Some vs) (Some ws) = if nat_le (length (vs ++ ws)) greatest_needed then Some (vs ++ ws) else None

-- The first bytes of a literal, if it has some.
abbrev pub literal_needle : List ℕ → Option (List (List ℕ))
literal_needle [] = None
literal_needle bs = Some (take greatest_length bs ∷ [])

-- The most needles that a byte may become with what is read after it.
abbrev pub greatest_rest : ℕ
greatest_rest = 16

-- The byte of a literal that has no other.
abbrev pub only_byte : Option (List ℕ) → Option ℕ
only_byte (Some (b ∷ [])) = Some b
only_byte _ = None

-- These, if there are some, they are few, and none of them is empty.
abbrev pub few : Option (List (List ℕ)) → Option (List (List ℕ))
few None = None
few (Some ws) = if nat_lt 0 (length ws) && nat_le (length ws) greatest_rest && nat_lt 0 (shortest ws) then Some ws else None

-- The prefixes of a concatenation's first member, if they are few.
abbrev pub next_bytes : Re → Option (List (List ℕ))
next_bytes (cat a rest) = few (first_bytes a)
next_bytes _ = None

-- The byte with each of the others after it, if both are known; else the needles.
abbrev pub with_each : Option ℕ → Option (List (List ℕ)) → Option (List (List ℕ)) → Option (List (List ℕ))
with_each (Some b) (Some ws) needles = Some (map (λ w. b ∷ w) ws)
with_each _ _ needles = needles

-- The needles of a concatenation's first member. A literal of one byte is lengthened by what is
-- read after it, if that begins with few prefixes.
abbrev pub with_rest : Re → Re → Option (List (List ℕ)) → Option (List (List ℕ))
with_rest a rest needles = with_each (only_byte (literal_bytes a)) (next_bytes rest) needles

-- So many copies of the bytes, one after another.
abbrev pub copies_of : ℕ → List ℕ → List ℕ
copies_of zero bs = []
copies_of (suc n) bs = bs ++ copies_of n bs

-- These bytes, if they are no more than are kept.
abbrev pub short_bytes : Option (List ℕ) → Option (List ℕ)
short_bytes None = None
short_bytes (Some bs) = if nat_le (length bs) greatest_length then Some bs else None

-- The first of the bytes read once and so many times more, if there are some; else the needles.
abbrev pub copied_needle : Option (List ℕ) → ℕ → Option (List (List ℕ)) → Option (List (List ℕ))
copied_needle None more needles = needles
copied_needle (Some bs) more needles = Some (take greatest_length (copies_of (suc (min more greatest_copies)) bs) ∷ [])

-- The needle of a literal that isn't long, read once and so many times more; else the needles.
abbrev pub with_copies : Option (List ℕ) → ℕ → Option (List (List ℕ)) → Option (List (List ℕ))
with_copies o more needles = copied_needle (short_bytes o) more needles

-- Needles of which each text that the pattern spells contains one. They are literals that must be
-- read: those of one member of a concatenation, and those of each member of an alternation. None if
-- no literal must be read, or there are too many. The longer ones have what is read after a single
-- byte.
abbrev pub needed : Bool → Re → Option (List (List ℕ))
needed longer empty = None
needed longer (literal bs) = literal_needle bs
needed longer (byte_in rs) = None
needed longer (char_in rs) = None
needed longer (look l) = None
needed longer (repeat zero max greedy a) = None
needed longer (repeat (suc more) max greedy a) = with_copies (literal_bytes a) more (needed longer a)
needed longer (capture n name a) = needed longer a
needed longer (cat a rest) = better (if longer then with_rest a rest (needed longer a) else needed longer a) (needed longer rest)
needed longer (alt a rest) = joined (needed longer a) (needed longer rest)
needed longer none = Some []

-- These are the needles that the patterns need, the longer ones or the others: there are some, and
-- none of them is empty.
pub record AreNeeded (longer : Bool) (hs : List Re) (ws : List (List ℕ)) : Type 0 where
  pub are : needed longer (alt_all hs) ≡ Some ws
  pub usable : IsUsable ws
