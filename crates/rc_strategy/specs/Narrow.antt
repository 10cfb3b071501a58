-- Narrowing: the search over the span of a match alone.
use Rattle.std.specs.Prelude.{◌≡◌, ℕ, Some}
use Rattle.rc_text.specs.Found.{Found}
use Rattle.rc_program.specs.Answer.{Search, Chosen, IsAnswer, by_pattern, found, answer, groups}
use Rattle.rc_program.specs.Longest.{longest, longest_groups}

-- The same search over the span of a match, for the match's pattern alone.
abbrev pub narrowed : Search → Found → Search
narrowed s m = record s { lo = m.start; hi = m.end; anchoring = by_pattern m.pattern }

-- The law of its answer, if the match is the search's answer.
pub record NarrowLaw : Type 0 where
  -- The same walk,
  pub walk : (s : Search) (c : Chosen) → IsAnswer s c → IsAnswer (narrowed s (found s c)) c
  pub match : (s : Search) (m : Found) → answer s ≡ Some m → answer (narrowed s m) ≡ Some m
  -- with the same groups,
  pub groups : (s : Search) (m : Found) (n : ℕ) → answer s ≡ Some m → groups (narrowed s m) n ≡ groups s n
  -- and the same if it is the leftmost-longest match.
  pub longest_match : (s : Search) (m : Found) → longest s ≡ Some m → longest (narrowed s m) ≡ Some m
  pub longest_slots : (s : Search) (m : Found) (n : ℕ) → longest s ≡ Some m → longest_groups (narrowed s m) n ≡ longest_groups s n
