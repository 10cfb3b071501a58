-- What a selector of lines selects by, as contracts see it.
use Rattle.std.specs.Prelude.{Bool}
use Rattle.api_meta.specs.declared.regex.Regex.{Regex}

-- A regex, and whether the lines without a match are selected.
pub record Selecting : Type 0 where
  pub regex : Regex
  pub is_inverted : Bool
