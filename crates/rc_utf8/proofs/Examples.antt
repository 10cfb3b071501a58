-- Byte programs, run on worked rows.
use Rattle.std.proofs.Common.{◌≡◌, List, [], ◌∷◌, length, refl}
use Rattle.std.specs.Char.{encode_utf8}
use Rattle.rc_pattern.specs.Re.{Range, literal, char_in, cat}
use Rattle.rc_program.specs.Program.{Place, branch, scalar, accept, program}
use Rattle.rc_utf8.specs.Bytes.{bytes_of}

-- a class and a match place
abbrev class_of : List Range → List Place
class_of rs = scalar rs 1 ∷ accept 0 ∷ []

abbrev any_but_feed : List Range
any_but_feed = (0, 9) ∷ (11, 0x10_FFFF) ∷ []

-- `\d` of ASCII is one place
digit : bytes_of (class_of ((48, 57) ∷ [])) ≡ branch (((48, 57), 1) ∷ []) ∷ accept 0 ∷ []
unfolding encode_utf8
digit = refl

-- `.` is one place, four places behind a lead byte, and three that read any so many continuation bytes
dot : bytes_of (class_of any_but_feed) ≡
    branch (((0, 9), 1) ∷ ((11, 127), 1) ∷ ((194, 223), 4) ∷ ((224, 224), 5) ∷ ((225, 236), 3) ∷ ((237, 237), 6) ∷ ((238, 239), 3)
    ∷ ((240, 240), 7) ∷ ((241, 243), 2) ∷ ((244, 244), 8) ∷ [])
    ∷ accept 0
    ∷ branch (((128, 191), 3) ∷ []) ∷ branch (((128, 191), 4) ∷ []) ∷ branch (((128, 191), 1) ∷ [])
    ∷ branch (((160, 191), 4) ∷ []) ∷ branch (((128, 159), 4) ∷ []) ∷ branch (((144, 191), 3) ∷ []) ∷ branch (((128, 143), 3) ∷ []) ∷ []
unfolding encode_utf8
dot = refl

-- `a.c`
a_dot_c : length (bytes_of (program (cat (literal (97 ∷ [])) (cat (char_in any_but_feed) (literal (99 ∷ []))) ∷ []))) ≡ 13
unfolding encode_utf8
a_dot_c = refl

-- `[à-éù-ü]`: one place behind their one lead byte
latin : bytes_of (class_of ((0xE0, 0xE9) ∷ (0xF9, 0xFC) ∷ [])) ≡
    branch (((195, 195), 2) ∷ []) ∷ accept 0 ∷ branch (((160, 169), 1) ∷ ((185, 188), 1) ∷ []) ∷ []
unfolding encode_utf8
latin = refl

-- `[一-鿿]`, U+4E00 to U+9FFF: E4 B8 80 to E9 BF BF
han : bytes_of (class_of ((0x4E00, 0x9FFF) ∷ [])) ≡
    branch (((228, 228), 4) ∷ ((229, 233), 2) ∷ []) ∷ accept 0 ∷ branch (((128, 191), 3) ∷ []) ∷ branch (((128, 191), 1) ∷ [])
    ∷ branch (((184, 191), 3) ∷ []) ∷ []
unfolding encode_utf8
han = refl

-- no scalar is in the empty class
empty_class : bytes_of (class_of []) ≡ branch [] ∷ accept 0 ∷ []
empty_class = refl
