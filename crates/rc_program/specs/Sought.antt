-- Searches: what a search over an input is.
use Rattle.std.specs.Prelude.{◌≡◌, ℕ, ◌<◌, ◌≤◌, Bool, false, ◌&&◌, ◌||◌, List, [], ◌∷◌, length}
use Rattle.rc_text.specs.declared.types.Anchored.{Anchored}
use Rattle.rc_text.specs.declared.types.Anchored.TheVariants.{No, Yes, Pattern}
use Rattle.rc_text.specs.Text.{Searched, low, high, slice_end}
use Rattle.rc_pattern.specs.Re.{Re}
use Rattle.rc_pattern.specs.Properties.{is_zero, minimum_len}
use Rattle.rc_program.specs.Text.{Text}
use Rattle.rc_program.specs.Program.{Place, accept, place_at, program, shown}
use Rattle.rc_program.specs.Answer.{Anchoring, anywhere, at_start, by_pattern, Search}
use Rattle.rc_program.specs.Laws.{IsClosed}

abbrev pub anchoring_of : Anchored → Anchoring
anchoring_of No = anywhere
anchoring_of Yes = at_start
anchoring_of (Pattern p) = by_pattern p

-- The view that a search has of an input.
abbrev pub text_of : ℕ → Searched → Text
text_of terminator s = record {
  content = s.content;
  slice_start = s.slice.start;
  slice_end = slice_end s;
  terminator = terminator;
}

-- The search of an input by a program.
abbrev pub search_over : List Place → ℕ → Bool → Searched → Search
search_over places terminator passes_over s = record {
  places = places;
  text = text_of terminator s;
  lo = low s;
  hi = high s;
  anchoring = anchoring_of s.anchored;
  passes_over = passes_over;
}

-- A regex, as a search needs it: its patterns, whether its program has their groups, the line
-- terminator, and whether empty matches may only be on boundaries.
pub record Sought : Type 0 where
  pub patterns : List Re
  pub grouped : Bool
  pub terminator : ℕ
  pub utf8_empty : Bool

-- The least length of some pattern is 0.
abbrev pub may_be_empty : List Re → Bool
may_be_empty [] = false
may_be_empty (h ∷ hs) = is_zero (minimum_len h) || may_be_empty hs

-- Matches may be passed over.
abbrev pub passes_over : Sought → Bool
passes_over q = q.utf8_empty && may_be_empty q.patterns

-- The search of an input by a regex.
abbrev pub search_for : Sought → Searched → Search
search_for q s = search_over (program (shown q.grouped q.patterns)) q.terminator (passes_over q) s

-- An engine may run over the places: it is entered at place 0, no way leads out, and a pattern's
-- number is one of `PatternID`.
pub record IsRunnable (places : List Place) : Type 0 where
  pub rooted : 0 < length places
  pub closed : IsClosed places
  pub numbered : (n p : ℕ) → place_at places n ≡ accept p → p ≤ 2147483646
