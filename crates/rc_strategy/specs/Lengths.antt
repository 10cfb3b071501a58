-- Only proofs use this file.
-- Match lengths and anchors: what is known of matches before any search.
use Rattle.std.specs.Prelude.{◌≡◌, ℕ, ◌+◌, ◌-◌, ◌≤◌, ◌⊎◌, Bool, true, false, ◌&&◌, ◌||◌, List, Option, Some, None, IsTrue, nat_lt, min, max}
use Rattle.rc_text.specs.Found.{Found}
use Rattle.rc_text.specs.Plain.{is_anchored}
use Rattle.rc_text.specs.Text.{Searched, low, high, slice_end}
use Rattle.rc_text.specs.declared.types.Anchored.TheVariants.{No, Yes}
use Rattle.rc_text.specs.declared.types.MatchKind.{MatchKind}
use Rattle.rc_text.specs.declared.types.MatchKind.TheVariants.{All, LeftmostFirst, LeftmostLongest}
use Rattle.rc_pattern.specs.Re.{Re}
use Rattle.rc_pattern.specs.Properties.{both}
use Rattle.rc_pattern.specs.declared.hir.Look.TheVariants.{Start, End}
use Rattle.rc_program.specs.Text.{Text, holds}
use Rattle.rc_program.specs.Program.{Place}
use Rattle.rc_program.specs.Spells.{Spells}
use Rattle.rc_program.specs.Answer.{Search}
use Rattle.rc_program.specs.Greatest.{IsSpelledIn}
use Rattle.rc_strategy.specs.declared.lengths.Lengths.{Lengths}

-- The span from i to j of a text is as described: it is no shorter and no longer, and if each
-- begins or ends with the slice, it does.
pub record KeepsTo (k : Lengths) (t : Text) (i j : ℕ) : Type 0 where
  pub least : i + k.least ≤ j
  pub greatest : (n : ℕ) → k.greatest ≡ Some n → j ≤ i + n
  pub begins : k.begins ≡ true → IsTrue (holds t Start i)
  pub ends : k.ends ≡ true → IsTrue (holds t End j)

-- Each span that the pattern spells is as described.
abbrev pub Bounds : Lengths → Re → Type 0
Bounds k h = (t : Text) (i j : ℕ) → Spells t h i j → KeepsTo k t i j

-- Each span that walks of the places spell is as described.
abbrev pub BoundsWalks : Lengths → List Place → Type 0
BoundsWalks k places = (s : Search) (m : Found) → s.places ≡ places → IsSpelledIn s m → KeepsTo k s.text m.start m.end

-- The lengths and anchors of spans that are of one kind or the other.
abbrev pub either : Lengths → Lengths → Lengths
either a b = record {
  least = min a.least b.least;
  greatest = both (λ m n. Some (max m n)) a.greatest b.greatest;
  begins = a.begins && b.begins;
  ends = a.ends && b.ends;
  lines = a.lines && b.lines;
}

-- Whether there can be no match of such a span.

-- Each begins with the slice, and the search begins later.
abbrev pub begin_early : Lengths → Searched → Bool
begin_early k s = k.begins && nat_lt s.slice.start (low s)

-- Each ends with the slice, and the search ends earlier.
abbrev pub end_late : Lengths → Searched → Bool
end_late k s = k.ends && nat_lt (high s) (slice_end s)

abbrev pub are_longer : Lengths → ℕ → Bool
are_longer k n = nat_lt n k.least

abbrev pub are_shorter : Lengths → ℕ → Bool
are_shorter k n = is_below k.greatest
  where
    is_below : Option ℕ → Bool
    is_below None = false
    is_below (Some greatest) = nat_lt greatest n

-- A match reaches from bound to bound.
abbrev pub must_fill : Lengths → Searched → Bool
must_fill k s = k.ends && (k.begins || is_anchored s.anchored)

-- Each begins or ends outside the bounds, or is longer than these are apart, or must reach from one
-- to the other and is shorter.
abbrev pub leave_none : Lengths → Searched → Bool
leave_none k s =
    begin_early k s || ((nat_lt (high s) (low s) || end_late k s)
    || (are_longer k (high s - low s) || (must_fill k s && are_shorter k (high s - low s))))

-- Matches of the kind begin at the least start: leftmost-first and leftmost-longest ones do.
abbrev pub is_leftmost : MatchKind → Bool
is_leftmost All = false
is_leftmost LeftmostFirst = true
is_leftmost LeftmostLongest = true

-- Each match begins where the slice does, and the search isn't anchored.
abbrev pub SeeksFromStart : Lengths → Searched → Type 0
SeeksFromStart k s = (s.anchored ≡ No) × (k.begins ≡ true)

-- The second search is the first, anchored if each match begins where the slice does.
abbrev pub IsHeld : Lengths → Searched → Searched → Type 0
IsHeld k s t = (t ≡ s) ⊎ (SeeksFromStart k s × (t ≡ record s { anchored = Yes }))

-- Each has this length.
abbrev pub IsOneLength : Lengths → ℕ → Type 0
IsOneLength k n = (k.least ≡ n) × (k.greatest ≡ Some n)
