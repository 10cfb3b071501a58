-- Only proofs use this file.
-- Overlapping search: from where on a search finds each walk, and what it finds before a position.
use Rattle.std.specs.Prelude.{◌≡◌, ◌↔◌, ◌⊎◌, ℕ, ◌<◌, ◌≤◌, Bool, false, List, length, Option, Some, None}
use Rattle.rc_text.specs.Found.{Found}
use Rattle.rc_pattern_set.specs.Sets.{Has}
use Rattle.rc_program.specs.Answer.{Search, IsStart}
use Rattle.rc_program.specs.Greatest.{HasNoSpan, IsSpelledIn}
use Rattle.rc_pikevm.specs.PatternSpans.{AddsSpelled, HasSpan}

-- The same search, but it passes no match over.
abbrev pub unpassed : Search → Search
unpassed s = record s { passes_over = false }

-- It is a start, and no span that is spelled begins at a lesser one; or nothing is spelled.
abbrev pub IsFirstStart : Search → Option ℕ → Type 0
IsFirstStart s None = HasNoSpan s
IsFirstStart s (Some x) = IsStart s x × ((m : Found) → IsSpelledIn s m → x ≤ m.start)

-- A walk of the pattern is spelled that begins before x.
abbrev pub HasSpanBefore : Search → ℕ → ℕ → Type 0
HasSpanBefore s x p = (m : Found) × (m.pattern ≡ p) × (m.start < x) × IsSpelledIn s m

-- The set keeps what it had, and adds each pattern below its capacity of which a walk is spelled
-- that begins before x.
pub record AddsBefore (s : Search) (x : ℕ) (old new : List Bool) : Type 0 where
  pub capacity : length new ≡ length old
  pub members : (p : ℕ) → Has new p ↔ (Has old p ⊎ ((p < length old) × HasSpanBefore s x p))

-- The same without a bound, if there is none.
abbrev pub AddsTo : Search → Option ℕ → List Bool → List Bool → Type 0
AddsTo s None = AddsSpelled s
AddsTo s (Some x) = AddsBefore s x

-- The set keeps what it had, and adds only patterns of which a walk is spelled.
pub record AddsSome (s : Search) (old new : List Bool) : Type 0 where
  pub capacity : length new ≡ length old
  pub keeps : (p : ℕ) → Has old p → Has new p
  pub only : (p : ℕ) → Has new p → Has old p ⊎ HasSpan s p
