-- Weights, run on worked rows.
use Rattle.std.proofs.Common.{◌≡◌, ◌*◌, ◌+◌, [], ◌∷◌, Some, true, refl}
use Rattle.std.specs.Char.{encode_utf8}
use Rattle.rc_pattern.specs.Re.{Re, literal, byte_in, char_in, repeat}
use Rattle.rc_pattern.specs.Weight.{weight}
use Rattle.rc_weigh.specs.Weight.{class_weight, laid_weight, laid_list_weight}

-- `[a-z]` is a branch with one way, of one range
letters : class_weight ((97, 122) ∷ []) ≡ 1 + 1 + 1
unfolding encode_utf8
letters = refl

-- `(?i)k` is K, k and U+212A: a branch with three ways, two places behind E2 and E2 84, and three ranges
kelvin : class_weight ((0x4B, 0x4B) ∷ (0x6B, 0x6B) ∷ (0x212A, 0x212A) ∷ []) ≡ 3 + 5 + 3
unfolding encode_utf8
kelvin = refl

-- `.` is eight places with seventeen ways, of two ranges
dot : class_weight ((0, 9) ∷ (11, 0x10_FFFF) ∷ []) ≡ 8 + 17 + 2
unfolding encode_utf8
dot = refl

abbrev any : Re
any = char_in ((0, 0x10_FFFF) ∷ [])

-- the first four ranges of Greek: a branch with two ways, and one place behind CD
greek : class_weight ((0x370, 0x373) ∷ (0x375, 0x377) ∷ (0x37A, 0x37D) ∷ (0x37F, 0x37F) ∷ []) ≡ 2 + 5 + 4
unfolding encode_utf8
greek = refl

-- the white space of Unicode
spaces : class_weight ((9, 13) ∷ (32, 32) ∷ (0x85, 0x85) ∷ (0xA0, 0xA0) ∷ (0x1680, 0x1680) ∷ (0x2000, 0x200A) ∷ (0x2028, 0x2029) ∷ (0x202F, 0x202F)
    ∷ (0x205F, 0x205F) ∷ (0x3000, 0x3000) ∷ []) ≡ 9 + 18 + 10
unfolding encode_utf8
spaces = refl

-- a class of bytes, and what isn't a class, weighs as by the stated grammar
bytes : laid_weight (byte_in ((48, 57) ∷ (97, 102) ∷ [])) ≡ 1
bytes = refl

thousand : laid_weight (repeat 1000 (Some 1000) true (literal (97 ∷ []))) ≡ weight (repeat 1000 (Some 1000) true (literal (97 ∷ [])))
thousand = refl

-- a hundred copies of white space
hundred : laid_list_weight (repeat 100 (Some 100) true (char_in ((9, 13) ∷ (32, 32) ∷ [])) ∷ []) ≡ 2 + (100 * (5 + 2) + 2) + 3
unfolding encode_utf8
hundred = refl
