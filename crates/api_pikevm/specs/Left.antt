-- What an iterator of matches has still to give, and what its calls keep.
use Rattle.std.specs.Prelude.{◌≡◌, ◌<◌, ◌≤◌, ◌+◌, ◌-◌, ◌*◌, ℕ, List, [], Option, IsTrue, IfNone, IfSome, if◌then◌else◌}
use Rattle.std.specs.Borrow.{GName}
use Rattle.std.specs.Iterator.{Yields, YieldsFirst}
use Rattle.rc_text.specs.Found.{Found}
use Rattle.rc_text.specs.Text.{Searched, high, low}
use Rattle.rc_text.specs.declared.cursor.Cursor.{Ghosts}
use Rattle.rc_program.specs.Kinds.{matches_by_kind}
use Rattle.rc_program.specs.Sought.{search_for}
use Rattle.rc_pikevm_search.specs.Moved.{IsMoved}
use Rattle.rc_settings.specs.SearchSettings.{match_kind_of}
use Rattle.api_pikevm.specs.Caches.{HasSameRoom, insertions_of}
use Rattle.api_pikevm.specs.Views.{sought, states_of, vm_settings}
use Rattle.api_pikevm.specs.declared.vm.PikeVM.{PikeVM}
use Rattle.api_pikevm.specs.declared.iterators.FindMatches.{FindMatches}

-- the matches of the kind in an input from its span's start on, where the match before ended at `last`
abbrev pub matches_in : PikeVM → Searched → Option ℕ → List Found
matches_in vm i last = matches_by_kind (match_kind_of (vm_settings vm)) (search_for (sought vm) i) i.span.start last

-- The last pass for the next match in the input, which is the match told or none, entered so many places: none if the bounds cross, at most all
-- for each position of the bounds and two more, and at least a place for each position of the match and one more.
abbrev pub IsCounted : PikeVM → Searched → Option Found → ℕ → Type 0
IsCounted vm i item n =
    (high i < low i → n ≡ 0) × (n ≤ states_of (sought vm) * (high i - low i + 2)) × IfSome item (λ m. m.end - m.start + 1 ≤ n)

module _ {C : Type 0} {cursor : Ghosts C} where
  -- the matches that are left
  abbrev pub find_left : FindMatches C cursor → List Found
  find_left s = if s.is_done then [] else matches_in s.vm.now s.input s.last

  -- whose matches they are
  abbrev pub find_vm : FindMatches C cursor → PikeVM
  find_vm s = s.vm.now

  -- the input that is kept
  abbrev pub find_input : FindMatches C cursor → Searched
  find_input s = s.input

  -- the same, but for the input that is kept
  abbrev pub with_input : FindMatches C cursor → Searched → FindMatches C cursor
  with_input s i = record s { input = i }

  -- the ghost name of the reference to the cache
  abbrev pub find_lender : FindMatches C cursor → GName
  find_lender s = s.cache.ghost_name

  -- Old and new search for the same, borrow the same cache, whose lists have the same room, and have the same input but for its chunk,
  -- its position and the start of its span.
  abbrev pub FindKeeps : FindMatches C cursor → FindMatches C cursor → Type 0
  FindKeeps old new =
      (find_vm new ≡ find_vm old) × (find_lender new ≡ find_lender old) × HasSameRoom old.cache.now new.cache.now
      × IsMoved (find_input old) (find_input new)

  -- no match is left, whatever the input becomes
  abbrev pub IsOver : FindMatches C cursor → Type 0
  IsOver s = IsTrue s.is_done

  -- how many places the last pass of the last search entered
  abbrev pub find_count : FindMatches C cursor → ℕ
  find_count s = insertions_of s.cache.now

  -- What the last pass of a call entered is counted by the bounds before the call, whether it gave a match or none. Once it is over, a call
  -- makes no pass, and the count stays.
  abbrev pub FindCounts : FindMatches C cursor → Option Found → FindMatches C cursor → Type 0
  FindCounts old item new =
      (IsOver old → find_count new ≡ find_count old) × (¬ IsOver old → IsCounted (find_vm old) (find_input old) item (find_count new))

  -- `next` took old to new, and gave the first of the matches left; without one it is over
  abbrev pub FindSteps : FindMatches C cursor → Option Found → FindMatches C cursor → Type 0
  FindSteps old item new =
      YieldsFirst find_left old item new × (FindKeeps old new × IfNone item (IsOver new) × FindCounts old item new)

  -- each state that calls of `next` lead to keeps what the first keeps
  abbrev pub FindKeepsAlong : FindMatches C cursor → Type 0
  FindKeepsAlong first = (items : List Found) (later : FindMatches C cursor) → Yields FindSteps first items later → FindKeeps first later
