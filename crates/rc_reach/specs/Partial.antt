-- Partial answers: what the beginning of a content tells of all that may follow.
use Rattle.std.specs.Prelude.{◌≡◌, ℕ, ◌+◌, ◌<◌, ◌≤◌, false, List, length, drop, Option, Some}
use Rattle.std.specs.Option.{option_map}
use Rattle.rc_text.specs.Found.{Found}
use Rattle.rc_text.specs.declared.types.MatchKind.{MatchKind}
use Rattle.rc_text.specs.declared.types.MatchKind.TheVariants.{LeftmostFirst as leftmost_first}
use Rattle.rc_walks.specs.Walks.{Pair}
use Rattle.rc_program.specs.Answer.{Search, IsStart, IsPassed, is_anchored, chosen}
use Rattle.rc_program.specs.Kinds.{answer_by}
use Rattle.rc_program.specs.Matches.{from_on}
use Rattle.rc_reach.specs.Settled.{AgreesBelow, IsInside}
use Rattle.rc_reach.specs.Reads.{IsKnownStart, ReadsBelow}
use Rattle.rc_reach.specs.Edits.{match_further}
use Rattle.rc_reach.specs.Live.{found_in}

-- t goes on from the content of s: it has all the bytes of s, and may have more, also in its span
-- and its slice.
abbrev pub GoesOnFrom : Search → Search → Type 0
GoesOnFrom s t = IsInside t × AgreesBelow (length s.text.content) s t

-- A partial answer.
pub data Partial : Type 0 where
  -- This is the match, whatever follows.
  final : Found → Partial
  -- No match begins before this place, whatever follows.
  from_place : ℕ → Partial

-- It is true of each content that goes on from that of s.
abbrev pub IsPartial : MatchKind → Search → Partial → Type 0
IsPartial kind s (final m) = (t : Search) → GoesOnFrom s t → answer_by kind t ≡ Some m
IsPartial kind s (from_place k) = (t : Search) → GoesOnFrom s t → (m : Found) →
    answer_by kind t ≡ Some m → k ≤ m.start

-- Each start before k gives no match, and the bytes that are here tell so.
abbrev pub ArePassedBefore : Search → ℕ → Type 0
ArePassedBefore s k = (y : ℕ) → IsStart s y → y < k →
    IsPassed s y × ((o : Option (List Pair)) × IsKnownStart s (length s.text.content) y o)

-- Partial answers to a search for the preferred match.
pub record PartialLaw : Type 0 where
  -- A match is final if the search reads only bytes that are here.
  pub found : (s : Search) (m : Found) → IsInside s → answer_by leftmost_first s ≡ Some m →
      ReadsBelow s (length s.text.content) (chosen s) → IsPartial leftmost_first s (final m)
  -- No match begins before a place if each start before it is passed.
  pub passed : (s : Search) (k : ℕ) → IsInside s → k ≤ length s.text.content → ArePassedBefore s k →
      IsPartial leftmost_first s (from_place k)
  -- The search may go on from there.
  pub goes_on : (s t : Search) (k : ℕ) → is_anchored s.anchoring ≡ false → s.lo ≤ k →
      IsPartial leftmost_first s (from_place k) → GoesOnFrom s t →
      answer_by leftmost_first (from_on t k) ≡ answer_by leftmost_first t
  -- The bytes that are more than four before a place may be dropped: from there on is found what
  -- was found with them.
  pub forgets : (s : Search) (content : List ℕ) (gone k : ℕ) → gone ≤ length content → 4 ≤ k →
      found_in s content (k + gone)
      ≡ option_map (match_further gone) (found_in s (drop gone content) k)
