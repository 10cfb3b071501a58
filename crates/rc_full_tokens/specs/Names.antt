-- Names of groups.
use Rattle.std.specs.Prelude.{ℕ, Bool, false, ◌&&◌, ◌||◌, ◌==◌, [], ◌∷◌}
use Rattle.unicode.specs.Binary.{is_alphabetic}
use Rattle.unicode.specs.GeneralCategory.{general_category}
use Rattle.unicode.specs.GeneralCategoryGroup.{in_group}
use Rattle.unicode.specs.declared.properties.GeneralCategoryGroup.TheVariants.{Number}
use Rattle.rc_tokens.specs.Text.{Characters, each}

abbrev pub begins_name : ℕ → Bool
begins_name c = (c == 95) || is_alphabetic c

-- a letter, a number, or one of `_`, `.`, `[` and `]`
abbrev pub goes_on_name : ℕ → Bool
goes_on_name c = begins_name c || in_group Number (general_category c) || (c == 46) || (c == 91) || (c == 93)

abbrev pub is_group_name : Characters → Bool
is_group_name [] = false
is_group_name (c ∷ t) = begins_name c && each goes_on_name t
