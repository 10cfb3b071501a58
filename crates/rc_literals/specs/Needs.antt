-- Required literals: needles that each match contains, and bytes that no match contains.
use Rattle.std.specs.Prelude.{◌≡◌, ℕ, ◌+◌, ◌-◌, ◌<◌, ◌≤◌, ◌⊎◌, Bool, false, IsTrue, List, Some, length, slice_get, slice_index_or}
use Rattle.rc_text.specs.Text.{Searched, high}
use Rattle.rc_pattern.specs.Re.{Re}
use Rattle.rc_program.specs.Text.{Text}
use Rattle.rc_program.specs.Spells.{SpelledBy}
use Rattle.rc_program.specs.Program.{Place}
use Rattle.rc_program.specs.Answer.{HasNoWalkFrom}
use Rattle.rc_program.specs.Sought.{search_over}
use Rattle.rc_needles.specs.Needles.{NoneAt, StandsAt}

-- Each text that a pattern spells contains a needle.
abbrev pub Holds : Text → List Re → List (List ℕ) → Type 0
Holds t hs needles = (p i j : ℕ) → SpelledBy t 0 hs p i j →
    (x k : ℕ) × (needle : List ℕ) × (slice_get needles k ≡ Some needle) × StandsAt t.content needle x × (i ≤ x) × (x + length needle ≤ j)

-- Whether the byte is one of the set, which has a flag for each byte.
abbrev pub is_stop : List Bool → ℕ → Bool
is_stop stops b = slice_index_or stops b false

-- No text that a pattern spells has a byte of the set.
abbrev pub LeavesOut : Text → List Re → List Bool → Type 0
LeavesOut t hs stops = (p i j x b : ℕ) → SpelledBy t 0 hs p i j → i ≤ x → x < j → slice_get t.content x ≡ Some b → is_stop stops b ≡ false

-- The byte before the position is one of the set.
abbrev pub IsBehindStop : List Bool → List ℕ → ℕ → Type 0
IsBehindStop stops content y = (b : ℕ) × (slice_get content (y - 1) ≡ Some b) × IsTrue (is_stop stops b)

-- No walk of the program begins at x if no needle occurs from x on and before y, and y is after a
-- byte of the set, or beyond the end of the search.
abbrev pub Confines : List Place → ℕ → List (List ℕ) → List Bool → Type 0
Confines places terminator needles stops = (over : Bool) (s : Searched) (x y : ℕ) → x < y → x ≤ high s →
    ((z : ℕ) → x ≤ z → z < y → NoneAt needles s.content (high s) z) → (high s < y) ⊎ IsBehindStop stops s.content y →
    HasNoWalkFrom (search_over places terminator over s) x
