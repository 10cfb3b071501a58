-- What an iterator of matches has still to give, and what its calls keep.
use Rattle.std.specs.Prelude.{◌≡◌, ℕ, ◌+◌, List, [], ◌∷◌, ◌++◌, length, map, Option, Some, None, Result, IsTrue, if◌then◌else◌}
use Rattle.std.specs.declared.result.Result.TheVariants.{Ok, Err}
use Rattle.std.specs.Iterator.{Count, at_most, Yields, YieldsThen}
use Rattle.rc_text.specs.Found.{Found}
use Rattle.rc_text.specs.Text.{Searched}
use Rattle.rc_text.specs.declared.types.MatchError.{MatchError}
use Rattle.rc_program.specs.Kinds.{matches_by_kind}
use Rattle.rc_program.specs.Sought.{search_for}
use Rattle.rc_pikevm_search.specs.Moved.{IsMoved}
use Rattle.api_dfa.specs.Faults.{IsNextFault}
use Rattle.api_dfa.specs.Views.{dfa_kind, dfa_of, sought}
use Rattle.api_dfa.specs.declared.dfa.DFA.{DFA}
use Rattle.api_dfa.specs.declared.regex.Regex.{Regex}
use Rattle.api_dfa.specs.declared.iterators.FindMatches.{FindMatches}

-- the matches of the kind in an input from its span's start on, where the match before ended at `last`
abbrev pub matches_in : DFA → Searched → Option ℕ → List Found
matches_in d i last = matches_by_kind (dfa_kind d) (search_for (sought d) i) i.span.start last

module _ {C : Type 0} where
  -- the matches that are left
  abbrev pub find_left : FindMatches C → List Found
  find_left s = if s.is_done then [] else matches_in (dfa_of s.regex.now) s.input s.last

  -- no more items come than these: the matches that are left, and an error
  abbrev pub items_left : FindMatches C → Count
  items_left s = at_most (if s.is_done then 0 else length (find_left s) + 1)

  -- whose matches they are
  abbrev pub find_regex : FindMatches C → Regex
  find_regex s = s.regex.now

  -- the input that is kept
  abbrev pub find_input : FindMatches C → Searched
  find_input s = s.input

  -- the same, but for the input that is kept
  abbrev pub with_input : FindMatches C → Searched → FindMatches C
  with_input s i = record s { input = i }

  -- Old and new search by the same, and have the same input but for its chunk, its position and the start of its span.
  abbrev pub FindKeeps : FindMatches C → FindMatches C → Type 0
  FindKeeps old new = (find_regex new ≡ find_regex old) × IsMoved (find_input old) (find_input new)

  -- nothing comes any more, whatever the input becomes
  abbrev pub IsOver : FindMatches C → Type 0
  IsOver s = IsTrue s.is_done

  -- `next` gave the first of the matches left, and leaves the others; or an error of the search for it; or nothing, where none is left. After an
  -- error, and after nothing, it is over, and then it gives nothing.
  abbrev pub GivesItem : FindMatches C → Option (Result Found MatchError) → FindMatches C → Type 0
  GivesItem old None new = (find_left old ≡ []) × IsOver new
  GivesItem old (Some (Ok m)) new = find_left old ≡ m ∷ find_left new
  GivesItem old (Some (Err e)) new = (¬ IsOver old) × IsNextFault (sought (dfa_of (find_regex old))) (find_input old) e × IsOver new

  -- what `next` gave, and what it kept
  abbrev pub FindSteps : FindMatches C → Option (Result Found MatchError) → FindMatches C → Type 0
  FindSteps old item new = GivesItem old item new × FindKeeps old new

  -- What calls of `next` give.
  pub record FindRuns (first : FindMatches C) : Type 0 where
    -- The matches are the first of those left, in order ..
    pub begin : (items : List Found) (later : FindMatches C) → Yields FindSteps first (map Ok items) later → find_left first ≡ items ++ find_left later
    -- .. and once nothing comes after them, all of those.
    pub all : (items : List Found) (later : FindMatches C) → YieldsThen FindSteps first (map Ok items) None later → find_left first ≡ items
    -- Each state that calls lead to keeps what the first keeps.
    pub keeps : (items : List (Result Found MatchError)) (later : FindMatches C) → Yields FindSteps first items later → FindKeeps first later
    -- Nothing comes after an error.
    pub ends : (items : List (Result Found MatchError)) (e : MatchError) (later : FindMatches C) (last : FindMatches C) (item : Option (Result Found MatchError)) →
        YieldsThen FindSteps first items (Some (Err e)) later → FindSteps later item last → item ≡ None
