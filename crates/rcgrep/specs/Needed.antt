-- Only proofs and the contracts of private functions use this file.
-- Which lines have no match, since they have none of the needles that each match contains.
use Rattle.std.specs.Prelude.{◌≡◌, ℕ, List, All, Option, None, Some}
use Rattle.rc_text.specs.declared.types.MatchKind.TheVariants.{LeftmostFirst}
use Rattle.rc_pattern.specs.WellFormed.{HasBounds}
use Rattle.rc_program.specs.Text.{Text}
use Rattle.rc_needles.specs.declared.hit.Hit.{Hit}
use Rattle.rc_literals.specs.Needs.{Holds}
use Rattle.api_meta.specs.Views.{regex_kind, sought}
use Rattle.api_meta.specs.declared.regex.Regex.{Regex}

-- It seeks the preferred match of patterns, and each text that one of them spells contains a needle.
pub record HoldsNeedle (r : Regex) (needles : List (List ℕ)) : Type 0 where
  pub kind : regex_kind r ≡ LeftmostFirst
  pub bounded : All HasBounds (sought r).patterns
  pub holds : (t : Text) → Holds t (sought r).patterns needles

-- where the needle begins, or the end
abbrev pub needle_or : ℕ → Option Hit → ℕ
needle_or end None = end
needle_or end (Some h) = h.start
