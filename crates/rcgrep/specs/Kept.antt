-- Only proofs and the contracts of private functions use this file.
-- Patterns whose matches lie in one line.
use Rattle.std.specs.Prelude.{◌≡◌, ◌≢◌, ℕ, ◌<◌, ◌≤◌, List, All, Some, slice_get}
use Rattle.rc_text.specs.declared.types.MatchKind.TheVariants.{LeftmostFirst}
use Rattle.rc_pattern.specs.Re.{Re}
use Rattle.rc_pattern.specs.WellFormed.{HasBounds}
use Rattle.rc_program.specs.Spells.{SpelledBy}
use Rattle.rc_program.specs.Text.{Text}
use Rattle.api_meta.specs.Views.{regex_kind, sought}
use Rattle.api_meta.specs.declared.regex.Regex.{Regex}

-- no text that a pattern spells has a newline
abbrev pub SpellNoNewline : Text → List Re → Type 0
SpellNoNewline t hs = (p i j k : ℕ) → SpelledBy t 0 hs p i j → i ≤ k → k < j → slice_get t.content k ≢ Some 10

-- It seeks the preferred match of such patterns.
pub record KeepsToLines (r : Regex) : Type 0 where
  pub kind : regex_kind r ≡ LeftmostFirst
  pub bounded : All HasBounds (sought r).patterns
  pub spelled : (t : Text) → SpellNoNewline t (sought r).patterns
