-- Only proofs use this file.
-- Reaches: how many bytes settle what a DFA search finds.
use Rattle.std.specs.Prelude.{◌≡◌, ℕ, ◌<◌, ◌≤◌, Bool, true, false, Option, Some, None, MatchOption, max, min}
use Rattle.std.specs.Option.{option_map}
use Rattle.rc_text.specs.Found.{Found}
use Rattle.rc_text.specs.declared.types.Anchored.{Anchored}
use Rattle.rc_text.specs.declared.types.Anchored.TheVariants.{No}
use Rattle.rc_text.specs.declared.types.MatchKind.{MatchKind}
use Rattle.rc_program.specs.Answer.{Search}
use Rattle.rc_program.specs.Kinds.{answer_by}
use Rattle.rc_program.specs.Text.{Text}
use Rattle.rc_reach.specs.Settled.{AgreesBelow, IsInside}
use Rattle.rc_text.specs.Plain.{is_anchored}
use Rattle.rc_dfa.specs.Machine.{Machine}
use Rattle.rc_dfa.specs.Reads.{HasEndedBelow, SearchEndsBelow}
use Rattle.rc_dfa.specs.Runs.{idle_at, met_last, SearchEndsDown}
use Rattle.rc_dfa.specs.declared.ended.Ended.TheVariants.{Found as found_last}
use Rattle.rc_dfa.specs.declared.ended.Met.{Met}
use Rattle.rc_dfa_reach.specs.RunReach.{seen_to}
use Rattle.rc_dfa_search.specs.Leftmost.{IsLeftmost}
use Rattle.rc_dfa_search.specs.Legs.{IsGiven}
use Rattle.rc_dfa_search.specs.Rests.{GivesToo, HasNoWalkBetween}
use Rattle.rc_dfa_search.specs.declared.needles.Leg.{Leg}
use Rattle.rc_dfa_search.specs.declared.needles.Leg.TheVariants.{Ended, Rested}
use Rattle.rc_dfa_search.specs.declared.search.Aim.{Aim}
use Rattle.rc_dfa_search.specs.declared.needles.Ending.{Ending}
use Rattle.rc_dfa_search.specs.declared.needles.Ending.TheVariants.{Nowhere, Stuck, Ends}

-- Each search that is the same below r has this answer.
abbrev pub IsAnswerBelow : MatchKind → Search → ℕ → Option Found → Type 0
IsAnswerBelow kind s r found = (t : Search) → IsInside t → AgreesBelow r s t → answer_by kind t ≡ found

-- The search tells its reach: it is leftmost, the first match isn't enough, and none is passed
-- over.
pub record TellsReach (aim : Aim) : Type 0 where
  pub kind : IsLeftmost aim.kind
  pub late : aim.earliest ≡ false
  pub all : aim.passes_over ≡ false

-- The match that begins at the first position, where a run from there met this. It doesn't end beyond
-- the second.
abbrev pub found_from : ℕ → ℕ → Option Met → Option Found
found_from from bound = option_map (λ (met : Met). let f : Found = record { pattern = met.pattern; start = from; end = min (max met.at from) bound } in f)

-- This was found from one position on, by the bytes before r alone.
abbrev pub HasMetBelow : Machine → Text → ℕ → ℕ → Anchored → ℕ → Option Met → Type 0
HasMetBelow m t hi from anchored r met = HasEndedBelow m t hi from anchored false false (found_last met) r

-- The match that ends here begins at this position: where an anchored search does, else at the
-- least that a run backwards met.
abbrev pub BeginsBy : Machine → Text → ℕ → ℕ → Anchored → Option ℕ → Type 0
BeginsBy n t from end anchored start =
    (is_anchored anchored ≡ true → start ≡ Some from)
    × (is_anchored anchored ≡ false → MatchOption start (SearchEndsDown n t from end anchored false (met_last None))
    (λ x. (k : ℕ) × SearchEndsDown n t from end anchored false (met_last (Some (x, k)))))

-- A run from this position on ended so, or rested here, and looked at the bytes before r alone.
abbrev pub HasRunBelow : Machine → Text → ℕ → ℕ → Bool → ℕ → Leg → Type 0
HasRunBelow m t hi from earliest r (Ended met) = HasEndedBelow m t hi from No earliest false (found_last met) r
HasRunBelow m t hi from earliest r (Rested i) = SearchEndsBelow m t hi from No earliest (idle_at i) r

-- In no search that is the same below r a walk begins before this position.
abbrev pub NoneBeginBelow : Search → ℕ → ℕ → Type 0
NoneBeginBelow s r from = (t : Search) → IsInside t → AgreesBelow r s t → HasNoWalkBetween t t.lo from

-- In each such search all starts give what those from this position on give.
abbrev pub GivesBelow : MatchKind → Machine → Search → ℕ → ℕ → Type 0
GivesBelow kind m s r from = (t : Search) → IsInside t → AgreesBelow r s t → GivesToo kind m t from t.lo

-- In each such search the starts give this find.
abbrev pub IsGivenBelow : MatchKind → Machine → Search → ℕ → Met → Type 0
IsGivenBelow kind m s r met = (t : Search) → IsInside t → AgreesBelow r s t → IsGiven kind m t (Some met)

-- What a search from needle to needle says of the search. If its runs ended at the first match that
-- they met, the last one only says that the starts from there on give what all give.
abbrev pub IsEnding : MatchKind → Bool → Machine → Search → Ending → Type 0
IsEnding kind earliest m s Nowhere = IsGiven kind m s None
IsEnding kind earliest m s Stuck = Unit {0}
IsEnding kind earliest m s (Ends from met r) =
    GivesToo kind m s from s.lo × (earliest ≡ false → (met.at < r) × IsGivenBelow kind m s (seen_to m.alphabet r) met)

-- The run that met a match began within the bounds.
abbrev pub BeginsWithin : ℕ → ℕ → Ending → Type 0
BeginsWithin lo hi Nowhere = Unit {0}
BeginsWithin lo hi Stuck = Unit {0}
BeginsWithin lo hi (Ends from met r) = (lo ≤ from) × (from ≤ hi)
