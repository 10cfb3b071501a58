-- Overlapping search: which patterns have a match within the bounds of a search.
use Rattle.std.specs.Prelude.{◌≡◌, ◌↔◌, ◌⊎◌, ℕ, ◌<◌, Bool, List, length}
use Rattle.rc_text.specs.Found.{Found}
use Rattle.rc_pattern_set.specs.Sets.{Has}
use Rattle.rc_program.specs.Program.{Place}
use Rattle.rc_program.specs.Answer.{Search}
use Rattle.rc_program.specs.Greatest.{IsSpelledIn}

-- A walk of the pattern is spelled within the bounds.
abbrev pub HasSpan : Search → ℕ → Type 0
HasSpan s p = (m : Found) × (m.pattern ≡ p) × IsSpelledIn s m

-- The set keeps what it had, and adds each pattern below its capacity of which a walk is spelled.
pub record AddsSpelled (s : Search) (old new : List Bool) : Type 0 where
  pub capacity : length new ≡ length old
  pub members : (p : ℕ) → Has new p ↔ (Has old p ⊎ ((p < length old) × HasSpan s p))

-- Each walk of the places is of one of the first n patterns.
abbrev pub AreOfFirst : ℕ → List Place → Type 0
AreOfFirst n places = (s : Search) (m : Found) → s.places ≡ places → IsSpelledIn s m → m.pattern < n
