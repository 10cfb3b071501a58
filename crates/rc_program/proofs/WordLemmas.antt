-- Word characters of ASCII.
use Rattle.std.proofs.Common.{◌≡◌, ℕ, ◌<◌, ◌||◌, ◌==◌, refl}
use Rattle.std.specs.Bool.{beq}
use Rattle.unicode.specs.Binary.{is_alphabetic}
use Rattle.unicode.specs.GeneralCategory.{general_category}
use Rattle.unicode.proofs.BinaryLemmas.{is_alphabetic_stepped}
use Rattle.unicode.proofs.GeneralCategoryLemmas.{general_category_stepped}
use Rattle.unicode.proofs.TableComputing.{tables}
use Rattle.unicode.proofs.Stepped.{Stepped, map_stepped, zip_stepped}
use Rattle.unicode.proofs.Facts.{Stepped-below, same_from_beq}
use Rattle.rc_program.specs.Looks.{is_word_byte, is_word_scalar, joins_words}

unfoldable stepped : Stepped (λ c. is_alphabetic c || joins_words (general_category c))
unfolding is_alphabetic_stepped general_category_stepped
stepped =
    zip_stepped ◌||◌ is_alphabetic (λ c. joins_words (general_category c)) is_alphabetic_stepped
    (map_stepped joins_words general_category general_category_stepped)

-- a word character of ASCII is a letter, a digit or `_`
pub is_word_scalar-ascii : (c : ℕ) → c < 128 → is_word_scalar c ≡ is_word_byte c
unfolding tables stepped
is_word_scalar-ascii c h =
    same_from_beq (is_word_scalar c) (is_word_byte c)
    (Stepped-below (λ x. is_alphabetic x || joins_words (general_category x)) stepped
    (λ x v. beq (v || x == 0x200C || x == 0x200D) (is_word_byte x)) 128 refl c h)
