-- Words: what they are good for.
use Rattle.std.specs.Prelude.{◌≡◌, ℕ, Bool, List, Some, None, false, All}
use Rattle.rc_text.specs.Found.{Found}
use Rattle.rc_text.specs.Text.{Searched, low, high}
use Rattle.rc_text.specs.declared.types.Anchored.TheVariants.{No}
use Rattle.rc_text.specs.declared.types.MatchKind.TheVariants.{LeftmostFirst as leftmost_first, LeftmostLongest as leftmost_longest}
use Rattle.rc_pattern.specs.Re.{Re}
use Rattle.rc_pattern.specs.WellFormed.{HasBounds}
use Rattle.rc_program.specs.Program.{Place, program, shown}
use Rattle.rc_program.specs.Kinds.{answer_by}
use Rattle.rc_program.specs.Sought.{search_over, text_of}
use Rattle.rc_words.specs.Words.{AreBetween, Between, HasNoWord, IsOnlyWord, SpellWords}

-- The match of pattern 0 from i to j.
abbrev pub first_pattern : ℕ → ℕ → Found
first_pattern i j = record { pattern = 0; start = i; end = j }

-- A leftmost match of each kind is this one.
abbrev pub AreAnswers : List Place → ℕ → Searched → Found → Type 0
AreAnswers places terminator s m =
    (answer_by leftmost_first (search_over places terminator false s) ≡ Some m)
    × (answer_by leftmost_longest (search_over places terminator false s) ≡ Some m)

-- There is no leftmost match of any kind.
abbrev pub HaveNoAnswer : List Place → ℕ → Searched → Type 0
HaveNoAnswer places terminator s =
    (answer_by leftmost_first (search_over places terminator false s) ≡ None)
    × (answer_by leftmost_longest (search_over places terminator false s) ≡ None)

pub record WordLaw : Type 0 where
  -- With their groups or without.
  pub spell : (hs : List Re) (grouped : Bool) (terminator : ℕ) (b : Between) → All HasBounds (shown grouped hs) → AreBetween hs b →
      SpellWords (program (shown grouped hs)) terminator b
  pub only : (places : List Place) (terminator : ℕ) (b : Between) (s : Searched) (i j : ℕ) → SpellWords places terminator b → s.anchored ≡ No →
      IsOnlyWord b (text_of terminator s) (low s) (high s) i j → AreAnswers places terminator s (first_pattern i j)
  pub none : (places : List Place) (terminator : ℕ) (b : Between) (s : Searched) → SpellWords places terminator b → s.anchored ≡ No →
      HasNoWord b (text_of terminator s) (low s) (high s) → HaveNoAnswer places terminator s
