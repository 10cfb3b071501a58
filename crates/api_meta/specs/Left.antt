-- What the iterators have still to give, from what they stand at.
use Rattle.std.specs.Prelude.{◌≡◌, ◌≢◌, ◌-◌, ◌<◌, ℕ, List, [], ◌∷◌, ◌++◌, All, length, map, Bool, Option, Some, None, Result, IfErr, IfNone, IsTrue, MatchOption, MatchResult, if◌then◌else◌}
use Rattle.std.specs.declared.result.Result.TheVariants.{Ok}
use Rattle.std.specs.declared.alloc.AllocError.{AllocError}
use Rattle.std.specs.Iterator.{Yields, YieldsFirst, YieldsThen}
use Rattle.std.specs.Iterator.Runs.{YieldsInOrder}
use Rattle.rc_text.specs.Found.{Found}
use Rattle.rc_text.specs.Text.{Searched, high}
use Rattle.rc_text.specs.declared.types.MatchKind.{MatchKind}
use Rattle.rc_text.specs.declared.types.MatchKind.TheVariants.{All as all_matches}
use Rattle.rc_text.specs.declared.types.Span.{Span}
use Rattle.rc_captures.specs.Captures.{match_of}
use Rattle.rc_captures.specs.Names.{Names}
use Rattle.rc_captures.specs.declared.captures.Captures.{Captures}
use Rattle.rc_program.specs.Answer.{Search, Chosen}
use Rattle.rc_program.specs.Kinds.{matches_by_kind}
use Rattle.rc_program.specs.Matches.{from_on, pieces_from, pieces_left}
use Rattle.rc_program.specs.Sought.{search_for}
use Rattle.rc_pikevm_search.specs.Moved.{IsMoved}
use Rattle.rc_pikevm_search.specs.Tells.{TellsOf, TellsSpan, AllTell, KeepsAll}
use Rattle.rc_pikevm_search.specs.Walks.{walks_left}
use Rattle.api_meta.specs.Seeking.{Finding, Seeking}
use Rattle.api_meta.specs.Views.{regex_kind, regex_names, sought}
use Rattle.api_meta.specs.declared.regex.Regex.{Regex}
use Rattle.api_meta.specs.declared.iterators.CapturesMatches.{CapturesMatches}
use Rattle.api_meta.specs.declared.iterators.Pieces.{Pieces}
use Rattle.api_meta.specs.declared.iterators.Split.{Split}
use Rattle.api_meta.specs.declared.iterators.SplitN.{SplitN}

-- the search of an input by a regex
abbrev pub search_by : Seeking → Searched → Search
search_by f i = search_for (sought f.regex) i

-- nothing once it has ended
abbrev pub unless_done : {X : Type 0} → Bool → List X → List X
unless_done done xs = if done then [] else xs

-- the kind of match that a seeker finds
abbrev pub kind_by : Seeking → MatchKind
kind_by f = regex_kind f.regex

-- the matches that a seeker has left in an input
abbrev pub left_in : Seeking → Searched → List Found
left_in f i = unless_done f.is_done (matches_by_kind (kind_by f) (search_by f i) i.span.start f.last)

-- and their walks, where they aren't the greatest
abbrev pub walks_in : Seeking → Searched → List Chosen
walks_in f i = unless_done f.is_done (walks_left (kind_by f) (search_by f i) i.span.start f.last)

-- What a search gives: the first of the matches that are left, and the others stay left; or nothing where none is left, and then none
-- is left.
abbrev pub GivesNext : Seeking → Searched → Option Found → Seeking → Searched → Type 0
GivesNext f i r g j = MatchOption r
    ((left_in f i ≡ []) × (left_in g j ≡ []))
    (λ m. left_in f i ≡ m ∷ left_in g j)

-- What a step keeps: the same regex, and the input but for its chunk, its position and the start of its span.
abbrev pub Goes : Seeking → Searched → Seeking → Searched → Type 0
Goes f i g j = (g.regex ≡ f.regex) × IsMoved i j

-- The captures tell the first of the walks that are left, with all its groups, and the others stay left.
pub record TellsWalk (f : Seeking) (i : Searched) (caps : Captures) (g : Seeking) (j : Searched) : Type 0 where
  pub walk : Chosen
  pub told : TellsOf (search_by f i) (Some walk) caps
  pub walks : walks_in f i ≡ walk ∷ walks_in g j

-- The captures hold the first of the matches that are left, and the others stay left.
pub record HoldsNext (f : Seeking) (i : Searched) (caps : Captures) (g : Seeking) (j : Searched) : Type 0 where
  pub kept : KeepsAll (regex_names f.regex) caps
  pub found : Found
  pub matched : match_of caps ≡ Some found
  pub left : left_in f i ≡ found ∷ left_in g j
  -- they hold all groups of the match, and none of a greatest one
  pub tells : kind_by f ≢ all_matches → TellsWalk f i caps g j
  pub spans : kind_by f ≡ all_matches → TellsSpan (Some found) caps
  -- the same is sought in the same, from elsewhere on
  pub regex : g.regex ≡ f.regex
  pub start : ℕ
  pub search : search_by g j ≡ from_on (search_by f i) start

-- What a search with groups gives: captures of the next match; or want of memory, which comes only where a match is left, and after
-- which none is left; or nothing where none is left, and then none is left.
abbrev pub GivesCaptures : Seeking → Searched → Option (Result Captures AllocError) → Seeking → Searched → Type 0
GivesCaptures f i r g j = MatchOption r
    ((left_in f i ≡ []) × (kind_by f ≢ all_matches → walks_in f i ≡ []) × (left_in g j ≡ []))
    (λ item. MatchResult item (λ caps. HoldsNext f i caps g j) (λ _. (0 < length (left_in f i)) × (left_in g j ≡ [])))

-- whose matches they are
abbrev pub find_regex : Finding → Regex
find_regex s = s.seeker.regex

-- the input that is kept
abbrev pub find_input : Finding → Searched
find_input s = s.input

-- the same, but for the input that is kept
abbrev pub with_find_input : Finding → Searched → Finding
with_find_input s i = record s { input = i }

-- the matches that are left
abbrev pub find_left : Finding → List Found
find_left s = left_in s.seeker s.input

-- no match comes any more, whatever the input becomes
abbrev pub IsFindOver : Finding → Type 0
IsFindOver s = IsTrue s.seeker.is_done

-- the same regex, and the same input but for its chunk, its position and the start of its span
abbrev pub FindKeeps : Finding → Finding → Type 0
FindKeeps s t = Goes s.seeker s.input t.seeker t.input

-- What `next` gives, and what it keeps. Without a match it is over.
abbrev pub FindNext : Finding → Option Found → Finding → Type 0
FindNext s r t = YieldsFirst find_left s r t × FindKeeps s t × IfNone r (IsFindOver t)

-- each run of calls gives the matches in order
abbrev pub FindRuns : Finding → Type 0
FindRuns s = YieldsInOrder FindNext find_left

abbrev pub captures_regex : {C : Type 0} → CapturesMatches C → Regex
captures_regex s = s.seeker.seeker.regex

abbrev pub captures_input : {C : Type 0} → CapturesMatches C → Searched
captures_input s = s.input

-- the same, but for the input that is kept
abbrev pub with_captures_input : {C : Type 0} → CapturesMatches C → Searched → CapturesMatches C
with_captures_input s i = record s { input = i }

-- the matches whose captures are left, and their walks
abbrev pub captures_left : {C : Type 0} → CapturesMatches C → List Found
captures_left s = left_in s.seeker.seeker s.input

abbrev pub captures_walks : {C : Type 0} → CapturesMatches C → List Chosen
captures_walks s = walks_in s.seeker.seeker s.input

-- no match comes any more, whatever the input becomes
abbrev pub IsCapturesOver : {C : Type 0} → CapturesMatches C → Type 0
IsCapturesOver s = IsTrue s.seeker.seeker.is_done

abbrev pub CapturesKeeps : {C : Type 0} → CapturesMatches C → CapturesMatches C → Type 0
CapturesKeeps s t = Goes s.seeker.seeker s.input t.seeker.seeker t.input

-- What `next` gives, and what it keeps. After the last match, and after want of memory, it is over.
abbrev pub CapturesNext : {C : Type 0} → CapturesMatches C → Option (Result Captures AllocError) → CapturesMatches C → Type 0
CapturesNext s r t = GivesCaptures s.seeker.seeker s.input r t.seeker.seeker t.input
    × CapturesKeeps s t
    × MatchOption r (IsCapturesOver t) (λ item. IfErr item (λ _. IsCapturesOver t))

-- What calls of `next` give of a search's list of matches of a kind, but for the greatest ones, from the span's start `start` on.
pub record CapturesLaw {C : Type 0} (kind : MatchKind) (names : Names) (search : Search) (start : ℕ) (s : CapturesMatches C) : Type 0 where
  -- captures that came keep all groups,
  pub kept : (items : List Captures) (t : CapturesMatches C) → Yields CapturesNext s (map Ok items) t → All (KeepsAll names) items
  -- tell the first walks of the list,
  pub told : (items : List Captures) (t : CapturesMatches C) → Yields CapturesNext s (map Ok items) t →
      (walks : List Chosen) × AllTell search walks items × (walks_left kind search start None ≡ walks ++ captures_walks t)
  -- and are of its first matches;
  pub matched : (items : List Captures) (t : CapturesMatches C) → Yields CapturesNext s (map Ok items) t →
      map Some (matches_by_kind kind search start None) ≡ map match_of items ++ map Some (captures_left t)
  -- and once nothing comes after them, of all.
  pub all_told : (items : List Captures) (t : CapturesMatches C) → YieldsThen CapturesNext s (map Ok items) None t →
      AllTell search (walks_left kind search start None) items
  pub all_matched : (items : List Captures) (t : CapturesMatches C) → YieldsThen CapturesNext s (map Ok items) None t →
      map match_of items ≡ map Some (matches_by_kind kind search start None)

-- What calls of `next` give of the list of matches of a kind, from the span's start `start` on.
pub record MatchedLaw {C : Type 0} (kind : MatchKind) (names : Names) (search : Search) (start : ℕ) (s : CapturesMatches C) : Type 0 where
  -- captures that came keep all groups,
  pub kept : (items : List Captures) (t : CapturesMatches C) → Yields CapturesNext s (map Ok items) t → All (KeepsAll names) items
  -- are of the first matches of the list,
  pub matched : (items : List Captures) (t : CapturesMatches C) → Yields CapturesNext s (map Ok items) t →
      map Some (matches_by_kind kind search start None) ≡ map match_of items ++ map Some (captures_left t)
  -- tell no group of greatest matches;
  pub spans : kind ≡ all_matches → (items : List Captures) (t : CapturesMatches C) → Yields CapturesNext s (map Ok items) t →
      All (λ caps. TellsSpan (match_of caps) caps) items
  -- and once nothing comes after them, are of all.
  pub all_matched : (items : List Captures) (t : CapturesMatches C) → YieldsThen CapturesNext s (map Ok items) None t →
      map match_of items ≡ map Some (matches_by_kind kind search start None)

-- the pieces that are left in an input: the next begins at `start`
abbrev pub pieces_in : Pieces → Searched → List Span
pieces_in p i = unless_done p.is_done (pieces_from p.start (high i) (left_in p.seeker i))

-- at most so many of them
abbrev pub few_in : ℕ → Pieces → Searched → List Span
few_in n p i = unless_done p.is_done (pieces_left n p.start (high i) (left_in p.seeker i))

-- the pieces that are left
abbrev pub split_left : {C : Type 0} → Split C → List Span
split_left s = pieces_in s.pieces s.input

-- no piece comes any more, whatever the input becomes
abbrev pub IsSplitOver : {C : Type 0} → Split C → Type 0
IsSplitOver s = IsTrue s.pieces.is_done

abbrev pub SplitKeeps : {C : Type 0} → Split C → Split C → Type 0
SplitKeeps s t = Goes s.pieces.seeker s.input t.pieces.seeker t.input

-- What `next` gives, and what it keeps. Without a piece it is over.
abbrev pub SplitNext : {C : Type 0} → Split C → Option Span → Split C → Type 0
SplitNext s r t = YieldsFirst split_left s r t × SplitKeeps s t × IfNone r (IsSplitOver t)

-- each run of calls gives the pieces in order
abbrev pub SplitRuns : {C : Type 0} → Split C → Type 0
SplitRuns {C} s = YieldsInOrder (SplitNext {C = C}) split_left

-- the input that is kept
abbrev pub split_input : {C : Type 0} → Split C → Searched
split_input s = s.input

-- the same, but for the input that is kept
abbrev pub with_split_input : {C : Type 0} → Split C → Searched → Split C
with_split_input s i = record s { input = i }

-- how many more calls of `next` may give a piece
abbrev pub splitn_limit : {C : Type 0} → SplitN C → ℕ
splitn_limit s = s.limit

-- at most so many of the pieces
abbrev pub splitn_left : {C : Type 0} → SplitN C → List Span
splitn_left s = few_in (splitn_limit s) s.pieces s.input

abbrev pub SplitnKeeps : {C : Type 0} → SplitN C → SplitN C → Type 0
SplitnKeeps s t = Goes s.pieces.seeker s.input t.pieces.seeker t.input

-- What `next` gives, and what it keeps. Each call lowers the limit.
abbrev pub SplitnNext : {C : Type 0} → SplitN C → Option Span → SplitN C → Type 0
SplitnNext s r t = YieldsFirst splitn_left s r t × (splitn_limit t ≡ splitn_limit s - 1) × SplitnKeeps s t

-- each run of calls gives the pieces in order
abbrev pub SplitnRuns : {C : Type 0} → SplitN C → Type 0
SplitnRuns {C} s = YieldsInOrder (SplitnNext {C = C}) splitn_left

-- the input that is kept
abbrev pub splitn_input : {C : Type 0} → SplitN C → Searched
splitn_input s = s.input

-- the same, but for the input that is kept
abbrev pub with_splitn_input : {C : Type 0} → SplitN C → Searched → SplitN C
with_splitn_input s i = record s { input = i }
