-- Match kinds: the leftmost-first, the leftmost-longest or the greatest match, or any that is
-- spelled.
use Rattle.std.specs.Prelude.{◌≡◌, ◌↔◌, ℕ, ◌+◌, ◌-◌, ◌≤◌, Bool, false, true, not, ◌&&◌, List, length, Option, Some, None, max}
use Rattle.rc_text.specs.Found.{Found}
use Rattle.rc_text.specs.declared.types.MatchKind.{MatchKind}
use Rattle.rc_text.specs.declared.types.MatchKind.TheVariants.{All as all_matches, LeftmostFirst as leftmost_first, LeftmostLongest as leftmost_longest}
use Rattle.rc_program.specs.Answer.{Search, answer}
use Rattle.rc_program.specs.Greatest.{IsSpelledIn, greatest}
use Rattle.rc_program.specs.Longest.{longest}
use Rattle.rc_program.specs.Matches.{begin_of, end_of, from_on, matches_by, matches_left, AreMatches, AreInOrder, LiesWithin}

-- The match of a kind.
abbrev pub answer_by : MatchKind → Search → Option Found
answer_by all_matches s = greatest s
answer_by leftmost_first s = answer s
answer_by leftmost_longest s = longest s

-- The search may answer any span that is spelled.
abbrev pub is_early : Bool → Search → Bool
is_early earliest s = earliest && not s.passes_over

-- Nothing if there is no match of the kind, else some match that is spelled.
abbrev pub IsEarlyAnswer : MatchKind → Search → Option Found → Type 0
IsEarlyAnswer kind s None = answer_by kind s ≡ None
IsEarlyAnswer kind s (Some m) = IsSpelledIn s m

abbrev pub IsAnswerWhere : Bool → MatchKind → Search → Option Found → Type 0
IsAnswerWhere true kind s o = IsEarlyAnswer kind s o
IsAnswerWhere false kind s o = o ≡ answer_by kind s

-- The answers that a search may give: the match of the kind; with the earliest flag on any that is
-- spelled, unless matches may be passed over.
abbrev pub IsAnswerBy : MatchKind → Bool → Search → Option Found → Type 0
IsAnswerBy kind earliest s o = IsAnswerWhere (is_early earliest s) kind s o

-- The match of a kind if the span starts at k.
abbrev pub answer_by_from : MatchKind → Search → ℕ → Option Found
answer_by_from kind s k = answer_by kind (from_on s k)

-- The matches of a kind that are left if the span starts at k, and the match before ended at
-- `last`.
unfoldable pub matches_by_kind : MatchKind → Search → ℕ → Option ℕ → List Found
matches_by_kind kind s k last = matches_by begin_of end_of (answer_by_from kind s) (s.hi + 1 - k) k last

-- The law of each kind.
pub record KindsLaw : Type 0 where
  -- The match of the kind is an answer, with the earliest flag on or off.
  pub best : (kind : MatchKind) (earliest : Bool) (s : Search) → IsAnswerBy kind earliest s (answer_by kind s)
  -- Each answer has a walk.
  pub spelled : (kind : MatchKind) (earliest : Bool) (s : Search) (m : Found) → IsAnswerBy kind earliest s (Some m) → IsSpelledIn s m
  -- If matches may not be passed over, an answer is missing exactly if there is no match.
  pub missing : (kind : MatchKind) (earliest : Bool) (s : Search) → s.passes_over ≡ false →
      IsAnswerBy kind earliest s None ↔ (answer s ≡ None)
  -- The function's list is the list of the definition.
  pub are_matches : (kind : MatchKind) (s : Search) (k : ℕ) → AreMatches begin_of end_of (answer_by_from kind s) k None (matches_by_kind kind s k None)
  pub alone : (kind : MatchKind) (s : Search) (k : ℕ) (ms : List Found) → AreMatches begin_of end_of (answer_by_from kind s) k None ms →
      ms ≡ matches_by_kind kind s k None
  pub in_order : (kind : MatchKind) (s : Search) (k : ℕ) → AreInOrder begin_of end_of s.hi (matches_by_kind kind s k None)
  pub few : (kind : MatchKind) (s : Search) (k : ℕ) → length (matches_by_kind kind s k None) ≤ s.hi + 1 - max k s.text.slice_start
  pub within : (kind : MatchKind) (s : Search) → LiesWithin begin_of end_of (answer_by_from kind s) s.text.slice_start s.hi
  -- The leftmost-first match is the answer, and its list the list of matches.
  pub preferred : (s : Search) → answer_by leftmost_first s ≡ answer s
  pub leftmost : (s : Search) (k : ℕ) (last : Option ℕ) → matches_by_kind leftmost_first s k last ≡ matches_left s k last
  -- The leftmost-longest match is the longest walk of the least start.
  pub longest : (s : Search) → answer_by leftmost_longest s ≡ longest s
