-- Worked rows of the definitions.
use Rattle.std.proofs.Common.{◌≡◌, false, true, [], ◌∷◌, Some, None, refl}
use Rattle.std.specs.Char.{encode_utf8}
use Rattle.rc_pattern.specs.Re.{literal, char_in, repeat, capture, cat}
use Rattle.rc_parser.specs.declared.config.Grammar.TheVariants.{Stated, Full}
use Rattle.rc_build.specs.Names.{names_shown}
use Rattle.rc_build.specs.Refusals.{size_of}

size_of_a : size_of Stated (literal (97 ∷ []) ∷ []) ≡ 192
size_of_a = refl

size_of_a_class : size_of Stated (char_in ((48, 57) ∷ []) ∷ []) ≡ 2880
size_of_a_class = refl

-- `(?:a{1000}){1000}`
size_of_turns : size_of Stated (repeat 1000 (Some 1000) true (repeat 1000 (Some 1000) true (literal (97 ∷ []))) ∷ []) ≡ 96128224
size_of_turns = refl

-- by the full grammar `[0-9]` is one place with one way, of one range
laid_size_of_a_class : size_of Full (char_in ((48, 57) ∷ []) ∷ []) ≡ 256
unfolding encode_utf8
laid_size_of_a_class = refl

laid_size_of_a : size_of Full (literal (97 ∷ []) ∷ []) ≡ size_of Stated (literal (97 ∷ []) ∷ [])
laid_size_of_a = refl

names_that_are_kept : names_shown true (cat (capture 1 (Some (110 ∷ [])) (literal (97 ∷ []))) (capture 2 None (literal (98 ∷ []))) ∷ []) ≡ (Some (110 ∷ []) ∷ None ∷ []) ∷ []
names_that_are_kept = refl

names_that_are_not : names_shown false (capture 1 (Some (110 ∷ [])) (literal (97 ∷ [])) ∷ []) ≡ [] ∷ []
names_that_are_not = refl
