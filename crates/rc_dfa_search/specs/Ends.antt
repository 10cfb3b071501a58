-- Only proofs use this file.
-- DFA search: what each half finds on the way to a match.
use Rattle.std.specs.Prelude.{◌≡◌, ◌⊎◌, ℕ, ◌+◌, ◌*◌, ◌-◌, ◌<◌, ◌≤◌, Bool, true, false, not, ◌&&◌, ◌||◌, if◌then◌else◌, List, Option, Some, None, Result, Ok, Err, min, max}
use Rattle.rc_pattern.specs.Re.{Re}
use Rattle.rc_text.specs.Found as spans
use Rattle.rc_text.specs.Text.{Searched, low, high, is_boundary}
use Rattle.rc_text.specs.declared.types.Anchored.{Anchored}
use Rattle.rc_text.specs.declared.types.Anchored.TheVariants.{Pattern}
use Rattle.rc_text.specs.declared.types.MatchKind.{MatchKind}
use Rattle.rc_text.specs.declared.types.MatchKind.TheVariants.{All as all_matches, LeftmostFirst as leftmost_first, LeftmostLongest as leftmost_longest}
use Rattle.rc_text.specs.declared.types.MatchError as error
use Rattle.rc_text.specs.declared.types.MatchError.TheVariants as errors
use Rattle.rc_program.specs.Text.{Text}
use Rattle.rc_program.specs.Answer.{Search}
use Rattle.rc_utf8.specs.Laws.{by_bytes}
use Rattle.rc_dfa.specs.Machine.{Machine}
use Rattle.rc_dfa.specs.Runs.{met_last, SearchEnds}
use Rattle.rc_dfa.specs.Ended.{HasEnded, HasEndedDown}
use Rattle.rc_dfa.specs.declared.ended.Met.{Met}
use Rattle.rc_dfa.specs.declared.ended.Ended.{Ended}
use Rattle.rc_dfa.specs.declared.ended.Ended.TheVariants.{Found, Idle, Quit, GaveUp}
use Rattle.rc_dfa_search.specs.declared.search.End.{End}
use Rattle.rc_dfa_search.specs.Leftmost.{IsRaisedBy}
use Rattle.rc_dfa_search.specs.Machines.{IsCase}
use Rattle.rc_dfa_search.specs.Laws.{pattern_met}

-- The pattern asked for, if any, is one of so many.
abbrev pub Asks : ℕ → Anchored → Type 0
Asks patterns (Pattern p) = p < patterns
Asks patterns _ = Unit {0}

-- The find of a run, or why there is no answer.
abbrev pub told_of : Ended → Result (Option Met) error.MatchError
told_of (Found met) = Ok met
told_of (Idle i) = Ok None
told_of (Quit b p) = Err (errors.Quit b p)
told_of (GaveUp p memory) = Err (errors.GaveUp p memory)

-- This was found from one position on, and no search rests.
abbrev pub HasMet : Machine → Text → ℕ → ℕ → Anchored → Bool → Option Met → Type 0
HasMet m t hi from anchored earliest met = HasEnded m t hi from anchored earliest false (Found met)

abbrev pub HasMetDown : Machine → Text → ℕ → ℕ → Anchored → Bool → Option Met → Type 0
HasMetDown m t lo end anchored earliest met = HasEndedDown m t lo end anchored earliest (Found met)

-- A match of the kind may end here, if matches off a boundary are passed over.
abbrev pub may_end : MatchKind → Bool → List ℕ → ℕ → Bool
may_end all_matches passes_over content at = true
may_end leftmost_first passes_over content at = not passes_over || is_boundary content at
may_end leftmost_longest passes_over content at = not passes_over || is_boundary content at

-- The search begins here: all earlier starts were passed over. If nothing is passed over, this is
-- its first start.
pub record Stands (hs : List Re) (kind : MatchKind) (early : Bool) (m n : Machine) (anchored : Anchored) (s : Search) (from : ℕ) : Type 0 where
  pub case : IsCase hs kind m n anchored s
  pub bounded : (s.lo ≤ from) × (from ≤ s.hi)
  pub raised : IsRaisedBy kind (by_bytes s) from
  pub alone : (kind ≡ all_matches) ⊎ (early ≡ true) → from ≡ s.lo

-- Forwards from where the search begins, this end was found, and a match of the search may end
-- there.
pub record IsEnd (hs : List Re) (kind : MatchKind) (early : Bool) (m n : Machine) (anchored : Anchored) (s : Search) (end : End) : Type 0 where
  pub stands : Stands hs kind early m n anchored s end.from
  pub place : ℕ
  pub pattern : pattern_met m place ≡ end.pattern
  pub ends : SearchEnds m s.text s.hi end.from anchored early (met_last (Some (place, end.at)))
  pub allowed : may_end kind s.passes_over s.text.content end.at ≡ true

-- A match begins where the forward run did that found its end.
abbrev pub begins_there : MatchKind → Bool → Bool → Bool
begins_there all_matches early anchored = early && anchored
begins_there leftmost_first early anchored = anchored
begins_there leftmost_longest early anchored = anchored

-- The pattern that was found with the end is the match's.
abbrev pub keeps_pattern : MatchKind → Bool → Bool
keeps_pattern all_matches early = false
keeps_pattern leftmost_first early = not early
keeps_pattern leftmost_longest early = not early

-- The start and the pattern of the match with this end, by what a reverse run found.
abbrev pub start_by : MatchKind → Bool → End → Met → Met
start_by kind early end met = record {
  pattern = (if keeps_pattern kind early then end.pattern else met.pattern);
  at = min (max met.at end.from) end.at;
}

-- The match of this start and pattern with this end.
abbrev pub match_by : End → Met → spans.Found
match_by end start = record { pattern = start.pattern; start = start.at; end = end.at }

-- How many states all forward runs may add.
abbrev pub cost_forwards : Searched → ℕ
cost_forwards s = (high s - low s + 1) * (high s - low s + 2)

-- One run for each start from this one on, each up to the end.
abbrev pub cost_from : Searched → ℕ → ℕ
cost_from s start = (high s - start + 1) * (high s - low s + 2)
