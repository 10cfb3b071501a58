-- Only proofs use this file.
-- Searches in either direction.
use Rattle.std.specs.Prelude.{◌≡◌, ℕ, ◌+◌, ◌-◌, ◌<◌, ◌≤◌, Bool, true, false, IsTrue, List, length, Option, Some, None, slice_get, slice_range}
use Rattle.rc_text.specs.declared.types.Anchored.{Anchored}
use Rattle.rc_text.specs.Text.{Searched, slice_end}
use Rattle.rc_program.specs.Looks.{Side}
use Rattle.rc_program.specs.Text.{Text, before_at, after_at}
use Rattle.rc_program.specs.Sought.{text_of}
use Rattle.rc_determinize.specs.States.{State}
use Rattle.rc_dfa.specs.Machine.{Machine}
use Rattle.rc_dfa.specs.Runs.{ahead_at, behind_at, Runs, RunsDown, RunEnd, met_last, stopped_at, idle_at, EndsDown, SearchEndsDown}
use Rattle.rc_dfa.specs.Ended.{HasEndedDown}
use Rattle.rc_dfa.specs.Reads.{EndsBelow, HasEndedBelow, SearchEndsBelow}
use Rattle.rc_dfa.specs.declared.ended.Ended.{Ended}
use Rattle.rc_dfa.specs.declared.ended.Ended.TheVariants.{Found, Idle, Quit, GaveUp}
use Rattle.rc_table_search.specs.Views.{IsPatternOf}

-- The byte before the position, or the one at it, within what the search sees. A search reads the
-- first of them next if it goes backwards, and the second if it goes forwards.
abbrev pub beside_at : Bool → Text → ℕ → Option ℕ
beside_at false = ahead_at
beside_at true = behind_at

-- The side of the position on which that byte stands, and what stands on the other side of the
-- position after it.
abbrev pub side_at : Bool → Text → ℕ → Side
side_at false = after_at
side_at true = before_at

abbrev pub far_at : Bool → Text → ℕ → Side
far_at false t i = before_at t (i + 1)
far_at true t i = after_at t (i - 1)

-- The offset of that byte.
abbrev pub offset_of : Bool → ℕ → ℕ
offset_of false i = i
offset_of true i = i - 1

-- That byte stands in the content.
abbrev pub IsBeside : Bool → List ℕ → ℕ → ℕ → Type 0
IsBeside false content i b = slice_get content i ≡ Some b
IsBeside true content i b = (1 ≤ i) × (slice_get content (i - 1) ≡ Some b)

-- How many bytes lie from the first position on to the second.
abbrev pub span : Bool → ℕ → ℕ → ℕ
span false i k = k - i
span true i k = i - k

-- The second position lies on from the first, or is the first.
abbrev pub IsOn : Bool → ℕ → ℕ → Type 0
IsOn false i k = i ≤ k
IsOn true i k = k ≤ i

-- A search: from which position, up to or down to which bound, and how.
pub record Course : Type 0 where
  pub from : ℕ
  pub bound : ℕ
  pub anchored : Anchored
  pub earliest : Bool

-- The position first.
abbrev pub swapped : Option (ℕ × ℕ) → Option (ℕ × ℕ)
swapped None = None
swapped (Some n) = Some (n.1, n.0)

abbrev pub swapped_end : RunEnd → RunEnd
swapped_end (met_last found) = met_last (swapped found)
swapped_end (stopped_at p) = stopped_at p
swapped_end (idle_at i) = idle_at i

-- From the first state, the bytes up to the position lead to this state, and this was found last.
abbrev pub RunsBy : Bool → Machine → Text → Course → State → ℕ → State → Option (ℕ × ℕ) → Type 0
RunsBy false m t c first i s found = Runs m t c.bound c.from first i s found
RunsBy true m t c first i s found = RunsDown m t c.bound c.from first i s (swapped found)

-- It ended so, and forwards it looked at the bytes before r alone.
abbrev pub EndsBy : Bool → Machine → Text → Course → ℕ → RunEnd → Type 0
EndsBy false m t c r e = SearchEndsBelow m t c.bound c.from c.anchored c.earliest e r
EndsBy true m t c r e = SearchEndsDown m t c.bound c.from c.anchored c.earliest (swapped_end e)

abbrev pub HasEndedBy : Bool → Machine → Text → Course → Bool → ℕ → Ended → Type 0
HasEndedBy false m t c may_rest r e = HasEndedBelow m t c.bound c.from c.anchored c.earliest may_rest e r
HasEndedBy true m t c may_rest r e = HasEndedDown m t c.bound c.from c.anchored c.earliest e

-- The same, from the state `first` on.
abbrev pub EndsFrom : Bool → Machine → Text → Course → State → ℕ → RunEnd → Type 0
EndsFrom false m t c first r e = EndsBelow m t c.bound c.from first c.earliest e r
EndsFrom true m t c first r e = EndsDown m t c.bound c.from first c.earliest (swapped_end e)

abbrev pub HasEndedFrom : Bool → Machine → Text → Course → State → Bool → ℕ → Ended → Type 0
HasEndedFrom backwards m t c first may_rest r (Found None) = EndsFrom backwards m t c first r (met_last None)
HasEndedFrom backwards m t c first may_rest r (Found (Some h)) =
    (q : ℕ) × IsPatternOf backwards m q h.pattern × EndsFrom backwards m t c first r (met_last (Some (q, h.at)))
HasEndedFrom backwards m t c first may_rest r (Idle i) = (backwards ≡ false) × IsTrue may_rest × EndsFrom backwards m t c first r (idle_at i)
HasEndedFrom backwards m t c first may_rest r (Quit b p) = (slice_get t.content p ≡ Some b) × EndsFrom backwards m t c first r (stopped_at p)
HasEndedFrom backwards m t c first may_rest r (GaveUp p memory) = IsOn backwards c.from p × IsOn backwards p c.bound

-- OVER A PIECE

-- The bound lies within the slice.
abbrev pub IsBounded : Bool → Searched → ℕ → Type 0
IsBounded false seen bound = bound ≤ slice_end seen
IsBounded true seen bound = seen.slice.start ≤ bound

-- The piece of this length does not lie beyond the bound.
abbrev pub LiesWithin : Bool → ℕ → ℕ → ℕ → Type 0
LiesWithin false start len bound = start + len ≤ bound
LiesWithin true start len bound = bound ≤ start

-- The piece begins at the position, and lies in the slice, not beyond the bound.
pub record IsAhead (backwards : Bool) (seen : Searched) (bound start : ℕ) (piece : List ℕ) : Type 0 where
  pub is : piece ≡ slice_range seen.content start (start + length piece)
  pub low : seen.slice.start ≤ start
  pub high : start + length piece ≤ slice_end seen
  pub inside : IsBounded backwards seen bound
  pub within : LiesWithin backwards start (length piece) bound

-- The byte is read next at the position, which is not the bound.
pub record IsNext (backwards : Bool) (seen : Searched) (bound i b : ℕ) : Type 0 where
  pub beside : (terminator : ℕ) → beside_at backwards (text_of terminator seen) i ≡ Some b
  pub there : IsBeside backwards seen.content i b
  pub left : 0 < span backwards i bound

-- OF THE SLICE

-- The slice has a byte there, before the position or at it.
abbrev pub IsInSlice : Bool → Searched → ℕ → Type 0
IsInSlice false seen i = (seen.slice.start ≤ i) × (i < slice_end seen)
IsInSlice true seen i = (seen.slice.start < i) × (i ≤ slice_end seen)
