-- Only proofs use this file.
-- Prefilters: what the runs of a search find that goes from needle to needle.
use Rattle.std.specs.Prelude.{◌≡◌, ℕ, ◌≤◌, Bool, false, Option, Some, None, Result, Ok, Err, min, max}
use Rattle.rc_text.specs.declared.types.Anchored.{Anchored}
use Rattle.rc_text.specs.declared.types.Anchored.TheVariants.{No}
use Rattle.rc_text.specs.declared.types.MatchKind.{MatchKind}
use Rattle.rc_program.specs.Text.{Text}
use Rattle.rc_program.specs.Answer.{Search}
use Rattle.rc_dfa.specs.Machine.{Machine}
use Rattle.rc_dfa.specs.Runs.{idle_at, SearchEnds}
use Rattle.rc_dfa.specs.declared.ended.Met.{Met}
use Rattle.rc_dfa.specs.declared.ended.Ended as ended
use Rattle.rc_dfa.specs.declared.ended.Ended.TheVariants as endings
use Rattle.rc_text.specs.declared.types.MatchError as error
use Rattle.rc_text.specs.declared.types.MatchError.TheVariants as errors
use Rattle.rc_dfa_search.specs.declared.search.Aim.{Aim}
use Rattle.rc_dfa_search.specs.declared.needles.Leg.{Leg}
use Rattle.rc_dfa_search.specs.declared.needles.Leg.TheVariants.{Ended, Rested}
use Rattle.rc_dfa_search.specs.Laws.{pattern_met}
use Rattle.rc_dfa_search.specs.Leftmost.{IsLeftmost}
use Rattle.rc_dfa_search.specs.Ends.{HasMet}
use Rattle.rc_dfa_search.specs.Rests.{StartsGive}

-- The search goes from needle to needle: it isn't anchored, it is leftmost, and no match is passed
-- over.
pub record GoesByNeedles (aim : Aim) (anchored : Anchored) : Type 0 where
  pub kind : IsLeftmost aim.kind
  pub late : aim.earliest ≡ false
  pub all : aim.passes_over ≡ false
  pub free : anchored ≡ No

-- How far a run came, or why there is no answer. It rests from the position on, and not past the
-- bound.
abbrev pub leg_of : ended.Ended → ℕ → ℕ → Result Leg error.MatchError
leg_of (endings.Found met) from hi = Ok (Ended met)
leg_of (endings.Idle i) from hi = Ok (Rested (min (max i from) hi))
leg_of (endings.Quit b p) from hi = Err (errors.Quit b p)
leg_of (endings.GaveUp p memory) from hi = Err (errors.GaveUp p memory)

-- A run from this position on ended so, or rested here.
abbrev pub HasRun : Machine → Text → ℕ → ℕ → Bool → Leg → Type 0
HasRun m t hi from earliest (Ended met) = HasMet m t hi from No earliest met
HasRun m t hi from earliest (Rested i) = SearchEnds m t hi from No earliest (idle_at i)

-- If it rested, it came on, and not past the bound.
abbrev pub ComesOn : ℕ → ℕ → Leg → Type 0
ComesOn from hi (Ended met) = Unit {0}
ComesOn from hi (Rested i) = (from ≤ i) × (i ≤ hi)

-- The find is what all starts of the search give.
abbrev pub IsGiven : MatchKind → Machine → Search → Option Met → Type 0
IsGiven kind m s None = StartsGive kind m s s.lo None
IsGiven kind m s (Some met) = (q : ℕ) × (pattern_met m q ≡ met.pattern) × StartsGive kind m s s.lo (Some (q, met.at))
