-- What an iterator of matches has still to give, and what its calls keep.
use Rattle.std.specs.Prelude.{◌≡◌, ℕ, ◌+◌, List, [], ◌∷◌, ◌++◌, length, map, Option, Some, None, Result, IsTrue, if◌then◌else◌}
use Rattle.std.specs.declared.result.Result.TheVariants.{Ok, Err}
use Rattle.std.specs.Borrow.{GName}
use Rattle.std.specs.Iterator.{Count, at_most, Yields, YieldsThen}
use Rattle.rc_text.specs.Found.{Found}
use Rattle.rc_text.specs.Text.{Searched}
use Rattle.rc_text.specs.declared.types.MatchError.{MatchError}
use Rattle.rc_program.specs.Kinds.{matches_by_kind}
use Rattle.rc_program.specs.Sought.{search_for}
use Rattle.rc_pikevm_search.specs.Moved.{IsMoved}
use Rattle.api_hybrid.specs.Caches.{IsCacheFor}
use Rattle.api_hybrid.specs.Finding.{Finding}
use Rattle.api_hybrid.specs.Faults.{ClearsWhereShortNext, IsNextFault}
use Rattle.api_hybrid.specs.Views.{regex_kind, sought}
use Rattle.api_hybrid.specs.declared.cache.Cache.{Cache}
use Rattle.api_hybrid.specs.declared.regex.Regex.{Regex}
use Rattle.api_hybrid.specs.declared.iterators.FindMatches.{FindMatches}

-- the matches of the kind in an input from its span's start on, where the match before ended at `last`
abbrev pub matches_in : Regex → Searched → Option ℕ → List Found
matches_in re i last = matches_by_kind (regex_kind re) (search_for (sought re) i) i.span.start last

module _ {C : Type 0} where
  -- the matches that are left
  abbrev pub find_left : FindMatches C → List Found
  find_left s = if s.is_done then [] else matches_in s.finder.regex s.input s.last

  -- no more items come than these: the matches that are left, and an error
  abbrev pub items_left : FindMatches C → Count
  items_left s = at_most (if s.is_done then 0 else length (find_left s) + 1)

  -- what finds them
  abbrev pub finding : FindMatches C → Finding
  finding s = s.finder

  -- whose matches they are
  abbrev pub find_regex : FindMatches C → Regex
  find_regex s = (finding s).regex

  -- what the cache holds that is lent, and the ghost name of the reference to it
  abbrev pub find_cache : FindMatches C → Cache
  find_cache s = (finding s).cache

  abbrev pub find_lender : FindMatches C → GName
  find_lender s = (finding s).lender

  -- the cache was made for the regex
  abbrev pub HasItsCache : FindMatches C → Type 0
  HasItsCache s = IsCacheFor (find_regex s) (find_cache s)

  -- the input that is kept
  abbrev pub find_input : FindMatches C → Searched
  find_input s = s.input

  -- the same, but for the input that is kept
  abbrev pub with_input : FindMatches C → Searched → FindMatches C
  with_input s i = record s { input = i }

  -- Old and new search by the same, borrow the same cache, which stays made for that, and have the same input but for its chunk, its position and
  -- the start of its span.
  abbrev pub FindKeeps : FindMatches C → FindMatches C → Type 0
  FindKeeps old new = (find_regex new ≡ find_regex old) × (find_lender new ≡ find_lender old) × (HasItsCache old → HasItsCache new)
      × IsMoved (find_input old) (find_input new)

  -- nothing comes any more, whatever the input becomes
  abbrev pub IsOver : FindMatches C → Type 0
  IsOver s = IsTrue s.is_done

  -- an error of the search for the next of the matches left
  abbrev pub IsErrorOf : FindMatches C → FindMatches C → MatchError → Type 0
  IsErrorOf old new e = IsNextFault (find_regex old) (find_input old) (find_cache old) (find_cache new) e

  -- `next` gave the first of the matches left, and leaves the others; or an error of the search for it; or nothing, where none is left. After an
  -- error, and after nothing, it is over, and then it gives nothing.
  abbrev pub GivesItem : FindMatches C → Option (Result Found MatchError) → FindMatches C → Type 0
  GivesItem old None new = (find_left old ≡ []) × IsOver new
  GivesItem old (Some (Ok m)) new = find_left old ≡ m ∷ find_left new
  GivesItem old (Some (Err e)) new = (¬ IsOver old) × IsErrorOf old new e × IsOver new

  -- all states were let go only where a table may have been short
  abbrev pub FindClears : FindMatches C → FindMatches C → Type 0
  FindClears old new = ClearsWhereShortNext (find_regex old) (find_input old) (find_cache old) (find_cache new)

  -- what `next` gave, and what it kept
  abbrev pub FindSteps : FindMatches C → Option (Result Found MatchError) → FindMatches C → Type 0
  FindSteps old item new = GivesItem old item new × FindKeeps old new × FindClears old new

  -- What calls of `next` give.
  pub record FindRuns (first : FindMatches C) : Type 0 where
    -- The matches are the first of those left, in order ..
    pub begin : (items : List Found) (later : FindMatches C) → Yields FindSteps first (map Ok items) later → find_left first ≡ items ++ find_left later
    -- .. and once nothing comes after them, all of those.
    pub all : (items : List Found) (later : FindMatches C) → YieldsThen FindSteps first (map Ok items) None later → find_left first ≡ items
    -- Each state that calls lead to keeps what the first keeps.
    pub keeps : (items : List (Result Found MatchError)) (later : FindMatches C) → Yields FindSteps first items later → FindKeeps first later
    -- Nothing comes after an error.
    pub ends : (items : List (Result Found MatchError)) (e : MatchError) (later : FindMatches C) (last : FindMatches C) (item : Option (Result Found MatchError)) →
        YieldsThen FindSteps first items (Some (Err e)) later → FindSteps later item last → item ≡ None
