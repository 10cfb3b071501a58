-- What a search's status tells: 0, there is no match, or none is final, or a batch is filled; 1, there is one; 3, the chunks are too long; 4,
-- the range is outside of the text. No other comes where the handle is full. Each comes exactly if that is so, and 4 if both 3 and 4 might.
use Rattle.std.specs.Prelude.{◌≡◌, ℕ, zero, suc, List, length, Option, Some, None, is_some, true, MatchOption}
use Rattle.std.specs.Borrow.{Bor}
use Rattle.rc_text.specs.Joined.{joined}
use Rattle.rc_pikevm_search.specs.Tells.{KeepsAll, TellsBy}
use Rattle.api_meta.specs.Views.{regex_kind, regex_names, regex_patterns}
use Rattle.api_meta.specs.declared.partial.Partial.TheVariants.{Final, From}
use Rattle.api_meta.specs.declared.regex.Regex.{Regex}
use Rattle.searcher.specs.Answers.{IsPartialIn, IsSame, answer_at, answer_in, left_in, matches_in, search_in}
use Rattle.searcher.specs.Last.{last_before}
use Rattle.searcher.specs.Places.{AreGroups, AreMarks, GoesOn, IsFilled, found_at}
use Rattle.searcher.specs.Ranges.{IsFault, IsServed}
use Rattle.searcher.specs.Searching.{Searching}
use Rattle.searcher.specs.declared.answers.Fault.TheVariants.{Outside, TooLong}
use Rattle.searcher.specs.declared.answers.GroupAt.{GroupAt}
use Rattle.searcher.specs.declared.answers.MatchAt.{MatchAt}
use Rattle.zorfelith_c.specs.declared.search.Progress.{Progress}

-- what a status means where it is of a search from `start` to `end`: `none` of 0, and `some` of 1
abbrev pub TellsOf : Type 0 → Type 0 → List (Bor (List ℕ)) → ℕ → ℕ → ℕ → Type 0
TellsOf none some chunks start end zero = IsServed chunks start end × none
TellsOf none some chunks start end (suc zero) = IsServed chunks start end × some
TellsOf none some chunks start end (suc (suc zero)) = ⊥
TellsOf none some chunks start end (suc (suc (suc zero))) = IsFault chunks start end TooLong
TellsOf none some chunks start end (suc (suc (suc (suc zero)))) = IsFault chunks start end Outside
TellsOf none some chunks start end (suc (suc (suc (suc (suc n))))) = ⊥

-- whether there is a match in the text
abbrev pub TellsWhether : Regex → List (Bor (List ℕ)) → ℕ → ℕ → ℕ → Type 0
TellsWhether r chunks start end status =
    TellsOf (answer_in r (joined chunks) start end ≡ None) (is_some (answer_in r (joined chunks) start end) ≡ true) chunks start end status

-- the match in the text
abbrev pub TellsMatch : Regex → List (Bor (List ℕ)) → ℕ → ℕ → ℕ → MatchAt → Type 0
TellsMatch r chunks start end status m =
    TellsOf (answer_in r (joined chunks) start end ≡ None) (answer_in r (joined chunks) start end ≡ Some (found_at m)) chunks start end status

-- the match in the text that begins at `start`
abbrev pub TellsMatchAt : Regex → List (Bor (List ℕ)) → ℕ → ℕ → ℕ → MatchAt → Type 0
TellsMatchAt r chunks start end status m =
    TellsOf (answer_at r (joined chunks) start end ≡ None) (answer_at r (joined chunks) start end ≡ Some (found_at m)) chunks start end status

-- the last match in the text that begins before the place
abbrev pub TellsLast : Regex → List (Bor (List ℕ)) → ℕ → ℕ → ℕ → ℕ → MatchAt → Type 0
TellsLast r chunks start end place status m =
    TellsOf (last_before place (matches_in r (joined chunks) start end) ≡ None)
    (last_before place (matches_in r (joined chunks) start end) ≡ Some (found_at m)) chunks start end status

-- what the text from `start` on tells, if more bytes may follow it: 1, a final match; 0, a place to go on from
abbrev pub TellsPartial : Regex → List (Bor (List ℕ)) → ℕ → ℕ → MatchAt → ℕ → Type 0
TellsPartial r chunks start status m from =
    TellsOf (IsPartialIn r (joined chunks) start (From from)) (IsPartialIn r (joined chunks) start (Final (found_at m)))
    chunks start 18446744073709551615 status

-- which patterns have a match in the text
abbrev pub TellsMarks : Regex → List (Bor (List ℕ)) → ℕ → ℕ → ℕ → List ℕ → Type 0
TellsMarks r chunks start end status marks =
    TellsOf (AreMarks (length (regex_patterns r)) (search_in r (joined chunks) start end) marks) ⊥ chunks start end status

-- The groups are those of the match in the text, as far as there are places for them; and the state of the iteration stays, and the list.
pub record HoldsGroups (s : Searching) (chunks : List (Bor (List ℕ))) (start end : ℕ) (groups : List GroupAt) (t : Searching) : Type 0 where
  pub told : TellsBy (regex_kind s.regex) (search_in s.regex (joined chunks) start end) t.captures
  pub whole : KeepsAll (regex_names s.regex) t.captures
  pub written : AreGroups t.captures groups
  pub same : IsSame s t

-- What a search for groups leaves in the handle and in the places for groups: what `HoldsGroups` says if it was made, and else what was there.
abbrev pub LeavesGroups : Searching → List (Bor (List ℕ)) → ℕ → ℕ → ℕ → (old new : List GroupAt) → Option Searching → Type 0
LeavesGroups s chunks start end zero old new t = MatchOption t ⊥ (HoldsGroups s chunks start end new)
LeavesGroups s chunks start end (suc zero) old new t = MatchOption t ⊥ (HoldsGroups s chunks start end new)
LeavesGroups s chunks start end (suc (suc n)) old new t = (t ≡ Some s) × (new ≡ old)

-- The batch holds the first of the matches that were left, and the others are left.
pub record IsBatch (s : Searching) (text : List ℕ) (end : ℕ) (batch : List MatchAt) (p : Progress) (t : Searching) : Type 0 where
  pub filled : IsFilled (left_in s text end) (left_in t text end) batch p.count
  pub goes_on : GoesOn batch p.count s.from s.last t.from t.last
  pub next : p.next ≡ t.from
  pub rest : t ≡ record s { from = t.from; last = t.last }

-- what a call for a batch tells, and what it leaves in the handle: after a fault what was there
abbrev pub TellsBatch : Searching → List (Bor (List ℕ)) → ℕ → ℕ → List MatchAt → Progress → Option Searching → Type 0
TellsBatch s chunks end zero batch p t = IsServed chunks s.from end × MatchOption t ⊥ (IsBatch s (joined chunks) end batch p)
TellsBatch s chunks end (suc zero) batch p t = ⊥
TellsBatch s chunks end (suc (suc zero)) batch p t = ⊥
TellsBatch s chunks end (suc (suc (suc zero))) batch p t = IsFault chunks s.from end TooLong × (t ≡ Some s)
TellsBatch s chunks end (suc (suc (suc (suc zero)))) batch p t = IsFault chunks s.from end Outside × (t ≡ Some s)
TellsBatch s chunks end (suc (suc (suc (suc (suc n))))) batch p t = ⊥
