-- Word boundaries of Unicode and the symbols that decide them, on worked rows.
use Rattle.std.proofs.Common.{◌≡◌, ℕ, ◌+◌, true, false, List, [], ◌∷◌, length, map, Some, None, refl}
use Rattle.std.specs.List.{range_with_len, filter}
use Rattle.unicode.proofs.CategoryComputing.{ucd_category}
use Rattle.unicode.proofs.DerivedComputing.{ucd_derived}
use Rattle.rc_pattern.specs.declared.hir.Look.{Look}
use Rattle.rc_pattern.specs.declared.hir.Look.TheVariants.{WordUnicode, WordUnicodeNegate, WordStartUnicode, WordEndUnicode, WordStartHalfUnicode, WordEndHalfUnicode}
use Rattle.rc_program.specs.Scalars.{scalar_at}
use Rattle.rc_program.specs.Text.{Text, holds, before_at, after_at}
use Rattle.rc_symbols.specs.Symbols.{Tag, tag_of}
use Rattle.rc_symbols.specs.Readers.{Left, read}

abbrev text_of : List ℕ → Text
text_of content = record { content = content; slice_start = 0; slice_end = length content; terminator = 10 }

-- the positions at which the assertion holds
abbrev row : Look → List ℕ → List ℕ
row l content = filter (holds (text_of content) l) (range_with_len 0 (length content + 1))

-- `naïve café`, `Привет, мир`, `字、字`
abbrev french : List ℕ
french = 0x6E ∷ 0x61 ∷ 0xC3 ∷ 0xAF ∷ 0x76 ∷ 0x65 ∷ 0x20 ∷ 0x63 ∷ 0x61 ∷ 0x66 ∷ 0xC3 ∷ 0xA9 ∷ []

abbrev russian : List ℕ
russian = 0xD0 ∷ 0x9F ∷ 0xD1 ∷ 0x80 ∷ 0xD0 ∷ 0xB8 ∷ 0xD0 ∷ 0xB2 ∷ 0xD0 ∷ 0xB5 ∷ 0xD1 ∷ 0x82 ∷ 0x2C ∷ 0x20 ∷ 0xD0 ∷ 0xBC ∷ 0xD0 ∷ 0xB8 ∷ 0xD1 ∷ 0x80 ∷ []

abbrev chinese : List ℕ
chinese = 0xE5 ∷ 0xAD ∷ 0x97 ∷ 0xE3 ∷ 0x80 ∷ 0x81 ∷ 0xE5 ∷ 0xAD ∷ 0x97 ∷ []

-- `€é`
abbrev sign : List ℕ
sign = 0xE2 ∷ 0x82 ∷ 0xAC ∷ 0xC3 ∷ 0xA9 ∷ []

french_boundary : row WordUnicode french ≡ 0 ∷ 6 ∷ 7 ∷ 12 ∷ []
unfolding ucd_category ucd_derived
french_boundary = refl

french_start : row WordStartUnicode french ≡ 0 ∷ 7 ∷ []
unfolding ucd_category ucd_derived
french_start = refl

french_end : row WordEndUnicode french ≡ 6 ∷ 12 ∷ []
unfolding ucd_category ucd_derived
french_end = refl

russian_boundary : row WordUnicode russian ≡ 0 ∷ 12 ∷ 14 ∷ 20 ∷ []
unfolding ucd_category ucd_derived
russian_boundary = refl

-- within `Прив`, and not within a character
russian_negate : row WordUnicodeNegate (0xD0 ∷ 0x9F ∷ 0xD1 ∷ 0x80 ∷ 0xD0 ∷ 0xB8 ∷ 0xD0 ∷ 0xB2 ∷ []) ≡ 2 ∷ 4 ∷ 6 ∷ []
unfolding ucd_category ucd_derived
russian_negate = refl

chinese_boundary : row WordUnicode chinese ≡ 0 ∷ 3 ∷ 6 ∷ 9 ∷ []
unfolding ucd_category ucd_derived
chinese_boundary = refl

-- `a` and U+0301, a mark
mark_boundary : row WordUnicode (0x61 ∷ 0xCC ∷ 0x81 ∷ []) ≡ 0 ∷ 3 ∷ []
unfolding ucd_category ucd_derived
mark_boundary = refl

-- U+1F600, `a` and U+10400, a letter of four bytes
four_bytes : row WordUnicode (0xF0 ∷ 0x9F ∷ 0x98 ∷ 0x80 ∷ 0x61 ∷ 0xF0 ∷ 0x90 ∷ 0x90 ∷ 0x80 ∷ []) ≡ 4 ∷ 9 ∷ []
unfolding ucd_category ucd_derived
four_bytes = refl

sign_start_half : row WordStartHalfUnicode sign ≡ 0 ∷ 3 ∷ []
unfolding ucd_category ucd_derived
sign_start_half = refl

sign_end_half : row WordEndHalfUnicode sign ≡ 0 ∷ 5 ∷ []
unfolding ucd_category ucd_derived
sign_end_half = refl

-- U+200D
joiner : row WordUnicode (0xE2 ∷ 0x80 ∷ 0x8D ∷ []) ≡ 0 ∷ 3 ∷ []
unfolding ucd_category ucd_derived
joiner = refl

empty : row WordUnicode [] ≡ []
empty = refl

-- `a` and a byte that begins no scalar
lone_boundary : row WordUnicode (0x61 ∷ 0xFF ∷ []) ≡ 0 ∷ 1 ∷ []
unfolding ucd_category ucd_derived
lone_boundary = refl

lone_negate : row WordUnicodeNegate (0x61 ∷ 0xFF ∷ []) ≡ []
unfolding ucd_category ucd_derived
lone_negate = refl

lone_start_half : row WordStartHalfUnicode (0xFF ∷ 0x61 ∷ []) ≡ 0 ∷ []
unfolding ucd_category ucd_derived
lone_start_half = refl

-- a scalar that is cut off
cut_end_half : row WordEndHalfUnicode (0x61 ∷ 0xC3 ∷ []) ≡ 2 ∷ []
unfolding ucd_category ucd_derived
cut_end_half = refl

-- `é` and a byte that goes on with nothing
stray_boundary : row WordUnicode (0xC3 ∷ 0xA9 ∷ 0xA9 ∷ []) ≡ 0 ∷ 2 ∷ []
unfolding ucd_category ucd_derived
stray_boundary = refl

-- `a€`
before_sign : row WordUnicode (0x61 ∷ 0xE2 ∷ 0x82 ∷ 0xAC ∷ []) ≡ 0 ∷ 1 ∷ []
unfolding ucd_category ucd_derived
before_sign = refl

-- a surrogate and `a`
surrogate_boundary : row WordUnicode (0xED ∷ 0xA0 ∷ 0x80 ∷ 0x61 ∷ []) ≡ 3 ∷ 4 ∷ []
unfolding ucd_category ucd_derived
surrogate_boundary = refl

-- a stray byte between two spaces
stray_negate : row WordUnicodeNegate (0x20 ∷ 0x80 ∷ 0x20 ∷ []) ≡ 0 ∷ 3 ∷ []
unfolding ucd_category ucd_derived
stray_negate = refl

-- the tags of each byte: of the scalar that begins with it, and of the one that ends with it
abbrev tags : List ℕ → List (Tag × Tag)
tags content = map (λ i. (tag_of (after_at (text_of content) i), tag_of (before_at (text_of content) (i + 1)))) (range_with_len 0 (length content))

-- the same by a reader
abbrev read_all : List ℕ → Left → List (Tag × Tag)
read_all [] left = []
read_all (b ∷ bs) left = let r = read left (scalar_at (b ∷ bs)) in (r.first, r.last) ∷ read_all bs r.left

-- `é€` and the beginning of a scalar of four bytes
abbrev several : List ℕ
several = 0xC3 ∷ 0xA9 ∷ 0xE2 ∷ 0x82 ∷ 0xAC ∷ 0xF0 ∷ 0x9F ∷ []

several_tags : tags several
    ≡ (Some true, None) ∷ (None, Some true) ∷ (Some false, None) ∷ (None, None) ∷ (None, Some false) ∷ (None, None) ∷ (None, None) ∷ []
unfolding ucd_category ucd_derived
several_tags = refl

several_read : read_all several None ≡ tags several
unfolding ucd_category ucd_derived
several_read = refl

-- a slice that begins within `é` and ends within another: both sides are broken
cut_slice : map (λ i. (tag_of (after_at (record (text_of (0xC3 ∷ 0xA9 ∷ 0x61 ∷ 0xC3 ∷ 0xA9 ∷ [])) { slice_start = 1; slice_end = 4 }) i))) (1 ∷ 2 ∷ 3 ∷ [])
    ≡ None ∷ Some true ∷ None ∷ []
unfolding ucd_category ucd_derived
cut_slice = refl
