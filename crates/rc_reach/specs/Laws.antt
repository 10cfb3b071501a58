-- Laws of settled answers.
use Rattle.std.specs.Prelude.{◌≡◌, ◌≢◌, ℕ, ◌+◌, ◌≤◌, Bool, List, [], ◌∷◌, All, Option, Some, IsTrue, max}
use Rattle.rc_pattern.specs.Re.{Re}
use Rattle.rc_pattern.specs.Properties.{both, maximum_len}
use Rattle.rc_pattern.specs.WellFormed.{HasBounds}
use Rattle.rc_program.specs.Program.{program, shown}
use Rattle.rc_program.specs.Kinds.{answer_by}
use Rattle.rc_text.specs.Found.{Found}
use Rattle.rc_text.specs.declared.types.MatchKind.{MatchKind}
use Rattle.rc_text.specs.declared.types.MatchKind.TheVariants.{LeftmostFirst as leftmost_first, LeftmostLongest as leftmost_longest, All as all_matches}
use Rattle.rc_program.specs.Answer.{Search, chosen, is_anchored}
use Rattle.rc_program.specs.Longest.{longest_chosen}
use Rattle.rc_reach.specs.Settled.{IsInside, IsSettled, IsWalkSettled}
use Rattle.rc_reach.specs.Reads.{ReadsBelow, ReadsAllBelow, ReadsWholeBelow}

-- If a search reads below r alone, the bytes before r settle its answer.
pub record ReachLaw : Type 0 where
  pub preferred : (s : Search) (r : ℕ) → IsInside s → ReadsBelow s r (chosen s) →
      IsWalkSettled leftmost_first r s
  pub longest : (s : Search) (r : ℕ) → IsInside s → ReadsAllBelow s r (longest_chosen s) →
      IsWalkSettled leftmost_longest r s
  pub greatest : (s : Search) (r : ℕ) → IsInside s → ReadsWholeBelow s r →
      IsWalkSettled all_matches r s
  -- If a walk is settled, its match is.
  pub match : (kind : MatchKind) (s : Search) (r : ℕ) → IsWalkSettled kind r s →
      IsSettled kind r s
  -- More bytes settle it too.
  pub more : (kind : MatchKind) (s : Search) (r q : ℕ) → r ≤ q →
      IsWalkSettled kind r s → IsWalkSettled kind q s

-- The slice, its end, and the byte after it settle all that a search finds.
abbrev pub SliceLaw : Type 0
SliceLaw = (kind : MatchKind) (s : Search) → IsInside s →
    IsWalkSettled kind (s.text.slice_end + 1) s

-- The greatest length of the patterns; `None` if one of them has none.
abbrev pub greatest_len : List Re → Option ℕ
greatest_len [] = Some 0
greatest_len (h ∷ hs) = both (λ m n. Some (max m n)) (maximum_len h) (greatest_len hs)

-- If no pattern is longer than n bytes, a match is settled by the n bytes from its start on, and by
-- the four at most that an assertion looks ahead. An anchored search has one start, so n + 4 bytes
-- from there settle its answer, also if there is no match.
pub record LengthLaw : Type 0 where
  pub found : (kind : MatchKind) (s : Search) (grouped : Bool) (hs : List Re) (m : Found) (n : ℕ) →
      IsInside s → s.places ≡ program (shown grouped hs) → All HasBounds hs →
      greatest_len hs ≡ Some n → kind ≢ all_matches → answer_by kind s ≡ Some m →
      IsWalkSettled kind (m.start + n + 4) s × (m.end ≤ m.start + n)
  pub anchored : (kind : MatchKind) (s : Search) (grouped : Bool) (hs : List Re) (n : ℕ) →
      IsInside s → s.places ≡ program (shown grouped hs) → All HasBounds hs →
      greatest_len hs ≡ Some n → IsTrue (is_anchored s.anchoring) →
      IsWalkSettled kind (s.lo + n + 4) s
      × ((m : Found) → answer_by kind s ≡ Some m → m.end ≤ s.lo + n)
