-- Only proofs use this file.
-- DFA search: what it is for.
use Rattle.std.specs.Prelude.{◌≡◌, ℕ, ◌+◌, ◌-◌, ◌*◌, ◌≤◌, Bool, not, ◌&&◌, List, length}
use Rattle.rc_text.specs.Limits.{most_patterns}
use Rattle.rc_pattern.specs.Re.{Re}
use Rattle.rc_text.specs.Text.{Searched, low, high}
use Rattle.rc_program.specs.Program.{program}
use Rattle.rc_program.specs.Answer.{Search}
use Rattle.rc_program.specs.Sought.{search_over}
use Rattle.rc_dfa.specs.Machine.{Alphabet, Machine}
use Rattle.rc_dfa_search.specs.Machines.{AreMachinesOver}
use Rattle.rc_dfa_search.specs.declared.search.Aim.{Aim}
use Rattle.rc_dfa_search.specs.declared.search.Bounds.{Bounds}

-- The search of an input for patterns.
abbrev pub search_for : Aim → List Re → ℕ → Searched → Search
search_for aim hs terminator s = search_over (program hs) terminator aim.passes_over s

-- The search from a position on.
abbrev pub search_from : Aim → List Re → ℕ → Searched → ℕ → Search
search_from aim hs terminator s lo = record (search_for aim hs terminator s) { lo = lo }

-- These are the bounds of the input, and a position lies between them.
abbrev pub AreBounds : Searched → Bounds → Type 0
AreBounds s bounds = (bounds.low ≡ low s) × (bounds.high ≡ high s) × (bounds.low ≤ bounds.high)

-- Any match is enough.
abbrev pub is_early : Aim → Bool
is_early aim = aim.earliest && not aim.passes_over

-- The halves are those of machines of these patterns, for matches of the kind, which read bytes or
-- symbols. `PatternID` has a number for each pattern.
pub record AreHalvesOf (AreOf : Machine → Machine → Type 0) (aim : Aim) (hs : List Re) (terminator : ℕ) : Type 0 where
  pub ahead : Machine
  pub back : Machine
  pub are_of : AreOf ahead back
  pub alphabet : Alphabet
  pub machines : AreMachinesOver alphabet hs terminator aim.kind ahead back
  pub counted : aim.patterns ≡ length hs
  pub few : length hs ≤ most_patterns

-- How many states a search may add.
abbrev pub cost : Searched → ℕ
cost s = (high s - low s + 4) * (high s - low s + 4)
