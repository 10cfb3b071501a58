-- Worked rows of the definitions.
use Rattle.std.proofs.Common.{◌≡◌, refl, [], ◌∷◌, codes}
use Rattle.std.specs.Fmt.{digits}
use Rattle.rc_program.specs.Matches.{matches_left}
use Rattle.rc_program.specs.Answer.{answer, chosen}
use Rattle.std.specs.Str.Parse.{digits_value}
use Rattle.regex_cursor.specs.Output.{lines_of, matches_in}
use Rattle.rc_pattern.specs.Meaning.{literal_of}

lines : lines_of (record { pattern = 0; start = 0; end = 2 } ∷ record { pattern = 0; start = 13; end = 105 } ∷ []) ≡ codes "0..2\n13..105\n"
unfolding digits
lines = refl

no_lines : lines_of [] ≡ []
no_lines = refl

leading_zeros : digits_value 10 (codes "007") ≡ 7
leading_zeros = refl

found : matches_in (literal_of (codes "ab")) (codes "abcab") ≡ record { pattern = 0; start = 0; end = 2 } ∷ record { pattern = 0; start = 3; end = 5 } ∷ []
unfolding matches_left answer chosen
found = refl
