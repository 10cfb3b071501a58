-- Prefix literals: lists of prefixes that cover patterns, and how one list replaces another.
use Rattle.std.specs.Prelude.{◌≡◌, ◌≤◌, ℕ, List, ◌++◌, All, Bool, false, Some, length, slice_get}
use Rattle.rc_pattern.specs.Re.{Re}
use Rattle.rc_pattern.specs.Meaning.{alt_all}
use Rattle.rc_pattern.specs.WellFormed.{HasBounds}
use Rattle.rc_program.specs.Text.{Text}
use Rattle.rc_program.specs.Program.{program, shown}
use Rattle.rc_literals.specs.Literals.{Covers}
use Rattle.rc_needles.specs.Guards.{Guards}
use Rattle.rc_literals.specs.Extraction.{are_too_many, first_bytes, greatest_count}
use Rattle.rc_needles.specs.Tables.{IsUsable}

-- These are the prefixes of the patterns: what may be read first in them, none of it empty, and no
-- more than are kept. If one of them is short, they are few.
pub record ArePrefixes (hs : List Re) (ws : List (List ℕ)) : Type 0 where
  pub are : first_bytes (alt_all hs) ≡ Some ws
  pub usable : IsUsable ws
  pub few : length ws ≤ greatest_count
  pub kept : are_too_many ws ≡ false

-- The bytes begin with the needle.
abbrev pub BeginsWith : List ℕ → List ℕ → Type 0
BeginsWith bytes needle = (rest : List ℕ) × (bytes ≡ needle ++ rest)

-- The bytes begin with one of the needles.
abbrev pub BeginsWithOne : List (List ℕ) → List ℕ → Type 0
BeginsWithOne needles bytes = (k : ℕ) × (needle : List ℕ) × (slice_get needles k ≡ Some needle) × BeginsWith bytes needle

-- Each of the prefixes begins with one of the needles.
abbrev pub EachBegins : List (List ℕ) → List (List ℕ) → Type 0
EachBegins prefixes needles = All (BeginsWithOne needles) prefixes

-- The law of lists that cover patterns.
pub record CoverLaw : Type 0 where
  -- No walk of their program begins at a position where none of its needles occurs, with their
  -- groups or without.
  pub guards : (hs : List Re) (grouped : Bool) (terminator : ℕ) (needles : List (List ℕ)) → All HasBounds hs →
      ((t : Text) → Covers t hs needles) → Guards (program (shown grouped hs)) terminator needles
  -- It covers the patterns with their groups or without.
  pub shown_too : (t : Text) (hs : List Re) (grouped : Bool) (needles : List (List ℕ)) → Covers t hs needles → Covers t (shown grouped hs) needles
  -- Each list of needles with which its members begin covers them too.
  pub by_beginnings : (t : Text) (hs : List Re) (prefixes needles : List (List ℕ)) → EachBegins prefixes needles →
      Covers t hs prefixes → Covers t hs needles
