-- Lists of matches: what is left of one after a match.
use Rattle.std.specs.Prelude.{◌≡◌, ℕ, ◌+◌, ◌-◌, ◌≤◌, List, length, Option}
use Rattle.rc_text.specs.Found.{Found}
use Rattle.rc_text.specs.declared.types.MatchKind.{MatchKind}
use Rattle.rc_text.specs.declared.types.MatchKind.TheVariants.{LeftmostFirst as leftmost_first}
use Rattle.rc_program.specs.Answer.{Search}
use Rattle.rc_program.specs.Kinds.{answer_by_from, matches_by_kind}
use Rattle.rc_program.specs.Matches.{AreInOrder, AreMatches, begin_of, end_of, matches_left}

-- The law of the list of matches of a kind that is left if the span starts at k, and a match before
-- it ended at `last`, wherever that is.
pub record LeftLaw : Type 0 where
  pub are_matches : (kind : MatchKind) (s : Search) (k : ℕ) (last : Option ℕ) →
      AreMatches begin_of end_of (answer_by_from kind s) k last (matches_by_kind kind s k last)
  pub alone : (kind : MatchKind) (s : Search) (k : ℕ) (last : Option ℕ) (ms : List Found) →
      AreMatches begin_of end_of (answer_by_from kind s) k last ms → ms ≡ matches_by_kind kind s k last
  pub in_order : (kind : MatchKind) (s : Search) (k : ℕ) (last : Option ℕ) → AreInOrder begin_of end_of s.hi (matches_by_kind kind s k last)
  pub few : (kind : MatchKind) (s : Search) (k : ℕ) (last : Option ℕ) → length (matches_by_kind kind s k last) ≤ s.hi + 1 - k
  -- Of the preferred matches it is the list of matches.
  pub leftmost : (s : Search) (k : ℕ) (last : Option ℕ) → matches_by_kind leftmost_first s k last ≡ matches_left s k last
