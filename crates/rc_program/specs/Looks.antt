-- Look-around: where assertions hold, each by the two sides of a position.
use Rattle.std.specs.Prelude.{ℕ, Bool, true, false, not, ◌&&◌, ◌||◌, ◌==◌, List, [], ◌∷◌, length, Option, Some, None, slice_index, nat_le}
use Rattle.std.specs.Option.{option_map}
use Rattle.unicode.specs.Binary.{is_alphabetic}
use Rattle.unicode.specs.GeneralCategory.{general_category}
use Rattle.unicode.specs.declared.properties.GeneralCategory.{GeneralCategory}
use Rattle.unicode.specs.declared.properties.GeneralCategory.TheVariants.{NonspacingMark, SpacingMark, EnclosingMark, DecimalNumber, ConnectorPunctuation}
use Rattle.rc_pattern.specs.declared.hir.Look.{Look}
use Rattle.rc_pattern.specs.declared.hir.Look.TheVariants.{Start, End, StartLF, EndLF, StartCRLF, EndCRLF, WordAscii, WordAsciiNegate, WordUnicode, WordUnicodeNegate, WordStartAscii, WordEndAscii, WordStartUnicode, WordEndUnicode, WordStartHalfAscii, WordEndHalfAscii, WordStartHalfUnicode, WordEndHalfUnicode}
use Rattle.rc_program.specs.Scalars.{scalar_at, scalar_before}

-- One side of a position: nothing; or a byte, with the scalar whose bytes are there, if one is.
pub data Side : Type 0 where
  nothing : Side
  stands : (byte : ℕ) → (scalar : Option ℕ) → Side

-- The side before a position, by the bytes that lead up to it.
abbrev pub side_before : List ℕ → Side
side_before [] = nothing
side_before (b ∷ bs) = stands (slice_index (b ∷ bs) (length bs)) (scalar_before (b ∷ bs))

-- The side after a position, by the bytes that go on from it.
abbrev pub side_after : List ℕ → Side
side_after [] = nothing
side_after (b ∷ bs) = stands b (option_map (λ (s : ℕ × ℕ). s.0) (scalar_at (b ∷ bs)))

-- Nothing is there.
abbrev pub is_edge : Side → Bool
is_edge nothing = true
is_edge (stands b c) = false

-- This byte is there.
abbrev pub has_byte : ℕ → Side → Bool
has_byte k nothing = false
has_byte k (stands b c) = b == k

-- An ASCII letter, an ASCII digit or `_`.
abbrev pub is_word_byte : ℕ → Bool
is_word_byte b = (nat_le 48 b && nat_le b 57) || (nat_le 65 b && nat_le b 90) || b == 95 || (nat_le 97 b && nat_le b 122)

-- A mark, a decimal number or a connecting punctuation.
abbrev pub joins_words : GeneralCategory → Bool
joins_words NonspacingMark = true
joins_words SpacingMark = true
joins_words EnclosingMark = true
joins_words DecimalNumber = true
joins_words ConnectorPunctuation = true
joins_words _ = false

-- A word character of Unicode: also U+200C and U+200D.
abbrev pub is_word_scalar : ℕ → Bool
is_word_scalar c = is_alphabetic c || joins_words (general_category c) || c == 0x200C || c == 0x200D

abbrev pub is_ascii_word : Side → Bool
is_ascii_word nothing = false
is_ascii_word (stands b c) = is_word_byte b

abbrev pub is_unicode_word : Side → Bool
is_unicode_word nothing = false
is_unicode_word (stands b None) = false
is_unicode_word (stands b (Some c)) = is_word_scalar c

-- Bytes are there, and no scalar.
abbrev pub is_broken : Side → Bool
is_broken nothing = false
is_broken (stands b None) = true
is_broken (stands b (Some c)) = false

abbrev pub differ : Bool → Bool → Bool
differ true b = not b
differ false b = b

-- The assertion holds between the two sides. Lines end at the terminator; or with CRLF at a CR, an
-- LF, or both as one end.
abbrev pub holds_between : ℕ → Side → Side → Look → Bool
holds_between terminator before after Start = is_edge before
holds_between terminator before after End = is_edge after
holds_between terminator before after StartLF = is_edge before || has_byte terminator before
holds_between terminator before after EndLF = is_edge after || has_byte terminator after
holds_between terminator before after StartCRLF = is_edge before || has_byte 10 before || (has_byte 13 before && not (has_byte 10 after))
holds_between terminator before after EndCRLF = is_edge after || has_byte 13 after || (has_byte 10 after && not (has_byte 13 before))
holds_between terminator before after WordAscii = differ (is_ascii_word before) (is_ascii_word after)
holds_between terminator before after WordAsciiNegate = not (differ (is_ascii_word before) (is_ascii_word after))
holds_between terminator before after WordUnicode = differ (is_unicode_word before) (is_unicode_word after)
holds_between terminator before after WordUnicodeNegate =
    not (is_broken before) && not (is_broken after) && not (differ (is_unicode_word before) (is_unicode_word after))
holds_between terminator before after WordStartAscii = not (is_ascii_word before) && is_ascii_word after
holds_between terminator before after WordEndAscii = is_ascii_word before && not (is_ascii_word after)
holds_between terminator before after WordStartUnicode = not (is_unicode_word before) && is_unicode_word after
holds_between terminator before after WordEndUnicode = is_unicode_word before && not (is_unicode_word after)
holds_between terminator before after WordStartHalfAscii = not (is_ascii_word before)
holds_between terminator before after WordEndHalfAscii = not (is_ascii_word after)
holds_between terminator before after WordStartHalfUnicode = not (is_broken before) && not (is_unicode_word before)
holds_between terminator before after WordEndHalfUnicode = not (is_broken after) && not (is_unicode_word after)
