-- Assertions and scalars, run on worked rows.
use Rattle.std.proofs.Common.{◌≡◌, ℕ, ◌+◌, Bool, true, false, List, [], ◌∷◌, length, map, Some, None, refl}
use Rattle.std.specs.List.{range_with_len}
use Rattle.unicode.proofs.CategoryComputing.{ucd_category}
use Rattle.unicode.proofs.DerivedComputing.{ucd_derived}
use Rattle.rc_pattern.specs.declared.hir.Look.{Look}
use Rattle.rc_pattern.specs.declared.hir.Look.TheVariants.{Start, End, StartLF, EndLF, StartCRLF, EndCRLF, WordAscii, WordAsciiNegate, WordUnicode, WordUnicodeNegate, WordStartAscii, WordEndAscii, WordStartUnicode, WordEndUnicode, WordStartHalfAscii, WordEndHalfAscii, WordStartHalfUnicode, WordEndHalfUnicode}
use Rattle.rc_program.specs.Scalars.{scalar_at, scalar_before}
use Rattle.rc_program.specs.Looks.{is_word_scalar}
use Rattle.rc_program.specs.Text.{Text, holds}

abbrev text_of : List ℕ → Text
text_of content = record { content = content; slice_start = 0; slice_end = length content; terminator = 10 }

-- at each position of the content, whether the assertion holds there
abbrev row : Look → List ℕ → List Bool
row l content = map (holds (text_of content) l) (range_with_len 0 (length content + 1))

-- `a`, LF, `b`
abbrev two_lines : List ℕ
two_lines = 97 ∷ 10 ∷ 98 ∷ []

-- `a`, CR, LF, `b`
abbrev two_crlf_lines : List ℕ
two_crlf_lines = 97 ∷ 13 ∷ 10 ∷ 98 ∷ []

-- `ab` and a space
abbrev word : List ℕ
word = 97 ∷ 98 ∷ 32 ∷ []

-- `é` in UTF-8, and a space
abbrev long_word : List ℕ
long_word = 0xC3 ∷ 0xA9 ∷ 32 ∷ []

start : row Start two_lines ≡ true ∷ false ∷ false ∷ false ∷ []
start = refl

end : row End two_lines ≡ false ∷ false ∷ false ∷ true ∷ []
end = refl

start_lf : row StartLF two_lines ≡ true ∷ false ∷ true ∷ false ∷ []
start_lf = refl

end_lf : row EndLF two_lines ≡ false ∷ true ∷ false ∷ true ∷ []
end_lf = refl

-- not between CR and LF
start_crlf : row StartCRLF two_crlf_lines ≡ true ∷ false ∷ false ∷ true ∷ false ∷ []
start_crlf = refl

end_crlf : row EndCRLF two_crlf_lines ≡ false ∷ true ∷ false ∷ false ∷ true ∷ []
end_crlf = refl

-- a CR alone ends a line too
start_after_cr : row StartCRLF (13 ∷ 98 ∷ []) ≡ true ∷ true ∷ false ∷ []
start_after_cr = refl

end_before_cr : row EndCRLF (98 ∷ 13 ∷ []) ≡ false ∷ true ∷ true ∷ []
end_before_cr = refl

word_ascii : row WordAscii word ≡ true ∷ false ∷ true ∷ false ∷ []
word_ascii = refl

word_ascii_negate : row WordAsciiNegate word ≡ false ∷ true ∷ false ∷ true ∷ []
word_ascii_negate = refl

word_start_ascii : row WordStartAscii word ≡ true ∷ false ∷ false ∷ false ∷ []
word_start_ascii = refl

word_end_ascii : row WordEndAscii word ≡ false ∷ false ∷ true ∷ false ∷ []
word_end_ascii = refl

word_start_half_ascii : row WordStartHalfAscii word ≡ true ∷ false ∷ false ∷ true ∷ []
word_start_half_ascii = refl

word_end_half_ascii : row WordEndHalfAscii word ≡ false ∷ false ∷ true ∷ true ∷ []
word_end_half_ascii = refl

-- no byte of `é` is a word byte of ASCII
long_word_ascii : row WordAscii long_word ≡ false ∷ false ∷ false ∷ false ∷ []
long_word_ascii = refl

word_unicode : row WordUnicode long_word ≡ true ∷ false ∷ true ∷ false ∷ []
unfolding ucd_category ucd_derived
word_unicode = refl

word_unicode_negate : row WordUnicodeNegate long_word ≡ false ∷ false ∷ false ∷ true ∷ []
unfolding ucd_category ucd_derived
word_unicode_negate = refl

word_start_unicode : row WordStartUnicode long_word ≡ true ∷ false ∷ false ∷ false ∷ []
unfolding ucd_category ucd_derived
word_start_unicode = refl

word_end_unicode : row WordEndUnicode long_word ≡ false ∷ false ∷ true ∷ false ∷ []
unfolding ucd_category ucd_derived
word_end_unicode = refl

word_start_half_unicode : row WordStartHalfUnicode long_word ≡ true ∷ false ∷ false ∷ true ∷ []
unfolding ucd_category ucd_derived
word_start_half_unicode = refl

word_end_half_unicode : row WordEndHalfUnicode long_word ≡ false ∷ false ∷ true ∷ true ∷ []
unfolding ucd_category ucd_derived
word_end_half_unicode = refl

-- `a` and a byte that stands alone: that byte is no word character
lone_byte : row WordUnicode (0x61 ∷ 0xA9 ∷ []) ≡ true ∷ true ∷ false ∷ []
unfolding ucd_category ucd_derived
lone_byte = refl

-- beside broken UTF-8 the negated assertion and the halves are false
broken_negate : row WordUnicodeNegate (0xFF ∷ []) ≡ false ∷ false ∷ []
broken_negate = refl

broken_start_half : row WordStartHalfUnicode (0xFF ∷ []) ≡ true ∷ false ∷ []
broken_start_half = refl

broken_end_half : row WordEndHalfUnicode (0xFF ∷ []) ≡ false ∷ true ∷ []
broken_end_half = refl

-- a letter, the joiners, a mark of each kind, a digit and a connecting punctuation
word_characters : map is_word_scalar (0xE9 ∷ 0x200C ∷ 0x200D ∷ 0x301 ∷ 0x903 ∷ 0x488 ∷ 0x661 ∷ 0x203F ∷ [])
    ≡ true ∷ true ∷ true ∷ true ∷ true ∷ true ∷ true ∷ true ∷ []
unfolding ucd_category ucd_derived
word_characters = refl

-- a space, the sign of multiplication, a joiner of words, a fraction
other_characters : map is_word_scalar (0x20 ∷ 0xD7 ∷ 0x2060 ∷ 0xBD ∷ []) ≡ false ∷ false ∷ false ∷ false ∷ []
unfolding ucd_category ucd_derived
other_characters = refl

-- a scalar of one, two, three and four bytes, the last the greatest of all
begins : map scalar_at ((0x61 ∷ 0x62 ∷ []) ∷ (0xC3 ∷ 0xA9 ∷ 0x61 ∷ []) ∷ (0xE2 ∷ 0x82 ∷ 0xAC ∷ []) ∷ (0xF4 ∷ 0x8F ∷ 0xBF ∷ 0xBF ∷ []) ∷ [])
    ≡ Some (0x61, 1) ∷ Some (0xE9, 2) ∷ Some (0x20AC, 3) ∷ Some (0x10_FFFF, 4) ∷ []
begins = refl

-- overlong forms of U+0000, U+007F, U+07FF and U+FFFF
overlong : map scalar_at ((0xC0 ∷ 0x80 ∷ []) ∷ (0xC1 ∷ 0xBF ∷ []) ∷ (0xE0 ∷ 0x9F ∷ 0xBF ∷ []) ∷ (0xF0 ∷ 0x8F ∷ 0xBF ∷ 0xBF ∷ []) ∷ [])
    ≡ None ∷ None ∷ None ∷ None ∷ []
overlong = refl

-- the first and the last surrogate, and the scalars beside them
surrogates : map scalar_at ((0xED ∷ 0x9F ∷ 0xBF ∷ []) ∷ (0xED ∷ 0xA0 ∷ 0x80 ∷ []) ∷ (0xED ∷ 0xBF ∷ 0xBF ∷ []) ∷ (0xEE ∷ 0x80 ∷ 0x80 ∷ []) ∷ [])
    ≡ Some (0xD7FF, 3) ∷ None ∷ None ∷ Some (0xE000, 3) ∷ []
surrogates = refl

-- too few bytes, a byte that goes on with none, and one that begins none
truncated : map scalar_at ([] ∷ (0xC3 ∷ []) ∷ (0xE2 ∷ 0x82 ∷ []) ∷ (0xF0 ∷ 0x9F ∷ 0x98 ∷ []) ∷ (0xC3 ∷ 0x61 ∷ []) ∷ (0xA9 ∷ []) ∷ (0xFF ∷ []) ∷ [])
    ≡ None ∷ None ∷ None ∷ None ∷ None ∷ None ∷ None ∷ []
truncated = refl

-- above the greatest scalar
above : map scalar_at ((0xF4 ∷ 0x90 ∷ 0x80 ∷ 0x80 ∷ []) ∷ (0xF5 ∷ 0x80 ∷ 0x80 ∷ 0x80 ∷ []) ∷ (0xF8 ∷ 0x88 ∷ 0x80 ∷ 0x80 ∷ 0x80 ∷ []) ∷ []) ≡ None ∷ None ∷ None ∷ []
above = refl

ends : map scalar_before ((0x61 ∷ []) ∷ (0x61 ∷ 0xC3 ∷ 0xA9 ∷ []) ∷ (0xC3 ∷ 0xE2 ∷ 0x82 ∷ 0xAC ∷ []) ∷ (0x61 ∷ 0xF0 ∷ 0x9F ∷ 0x98 ∷ 0x80 ∷ []) ∷ [])
    ≡ Some 0x61 ∷ Some 0xE9 ∷ Some 0x20AC ∷ Some 0x1_F600 ∷ []
ends = refl

ends_with_none : map scalar_before ([] ∷ (0x61 ∷ 0xA9 ∷ []) ∷ (0xC3 ∷ []) ∷ (0xC3 ∷ 0xA9 ∷ 0xA9 ∷ []) ∷ (0xED ∷ 0xA0 ∷ 0x80 ∷ []) ∷ [])
    ≡ None ∷ None ∷ None ∷ None ∷ None ∷ []
ends_with_none = refl
