-- The classes `\d`, `\s` and `\w`.
use Rattle.std.specs.Prelude.{Bool, true, false}
use Rattle.unicode.specs.Perl.{is_word_char, is_digit_char, is_space_char}
use Rattle.unicode.specs.Rows.{in_ranges}
use Rattle.rc_tokens.specs.Classes.{set_ranges}
use Rattle.rc_tokens.specs.declared.tokens.Set.{Set}
use Rattle.rc_tokens.specs.declared.tokens.Set.TheVariants.{Digits, Spaces, Words}
use Rattle.rc_class_sets.specs.Sets.{CodeSet}

-- of characters by Unicode, of bytes by ASCII
abbrev pub perl_set : Bool → Set → CodeSet
perl_set true Digits = is_digit_char
perl_set true Spaces = is_space_char
perl_set true Words = is_word_char
perl_set false set = in_ranges (set_ranges set)
