-- Words: literals with an assertion on each side.
use Rattle.std.specs.Prelude.{◌≡◌, ◌↔◌, ℕ, ◌+◌, ◌≤◌, Bool, List, [], ◌∷◌, length, Some, IsTrue, slice_get}
use Rattle.rc_text.specs.Found.{Found}
use Rattle.rc_text.specs.Text.{Searched, high}
use Rattle.rc_pattern.specs.declared.hir.Look.{Look}
use Rattle.rc_pattern.specs.Re.{Re, look, capture, cat, empty}
use Rattle.rc_program.specs.Text.{Text, holds}
use Rattle.rc_program.specs.Program.{Place}
use Rattle.rc_program.specs.Answer.{IsStart}
use Rattle.rc_program.specs.Greatest.{IsSpelledIn, AllowsPattern}
use Rattle.rc_program.specs.Sought.{search_over, text_of}
use Rattle.rc_needles.specs.Needles.{StandsWithin}
use Rattle.rc_needles.specs.Prefilters.{needles_of}
use Rattle.rc_literals.specs.Literals.{literals_of}
use Rattle.rc_words.specs.declared.words.Words.{Words}

-- Literals, and the assertions before and behind each.
pub record Between : Type 0 where
  pub needles : List (List ℕ)
  pub before : Look
  pub behind : Look

-- What contracts see of words.
abbrev pub between_in : Words → Between
between_in w = record { needles = needles_of w.needles; before = w.before; behind = w.behind }

-- What is inside a group, or the pattern itself.
abbrev pub ungrouped : Re → Re
ungrouped (capture n name a) = a
ungrouped h = h

-- The patterns are one, and that is the literals between the assertions, or a group of them.
pub record AreBetween (hs : List Re) (b : Between) : Type 0 where
  pub inner : Re
  pub is : hs ≡ cat (look b.before) (cat inner (cat (look b.behind) empty)) ∷ []
  pub lists : literals_of (ungrouped inner) ≡ Some b.needles

-- A literal occurs from i to j, no further than hi, and the assertion behind it holds.
pub record IsEnded (b : Between) (t : Text) (hi i j : ℕ) : Type 0 where
  pub number : ℕ
  pub needle : List ℕ
  pub is : slice_get b.needles number ≡ Some needle
  pub stands : StandsWithin t.content hi needle i
  pub end : j ≡ i + length needle
  pub behind : IsTrue (holds t b.behind j)

-- So does the assertion before it.
abbrev pub IsWord : Between → Text → ℕ → ℕ → ℕ → Type 0
IsWord b t hi i j = IsTrue (holds t b.before i) × IsEnded b t hi i j

-- No word begins from lo on.
abbrev pub HasNoWord : Between → Text → ℕ → ℕ → Type 0
HasNoWord b t lo hi = (i j : ℕ) → lo ≤ i → ¬ IsWord b t hi i j

-- From lo on, it is the only word up to its start.
pub record IsOnlyWord (b : Between) (t : Text) (lo hi i j : ℕ) : Type 0 where
  pub low : lo ≤ i
  pub here : IsWord b t hi i j
  pub only : (x y : ℕ) → lo ≤ x → x ≤ i → IsWord b t hi x y → (x ≡ i) × (y ≡ j)

-- What searches of these places spell are the words.
abbrev pub SpellWords : List Place → ℕ → Between → Type 0
SpellWords places terminator b = (over : Bool) (s : Searched) (m : Found) →
    IsSpelledIn (search_over places terminator over s) m
    ↔ (IsStart (search_over places terminator over s) m.start × AllowsPattern (search_over places terminator over s) m.pattern
    × (m.pattern ≡ 0) × IsWord b (text_of terminator s) (high s) m.start m.end)
