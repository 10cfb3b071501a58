-- The class that a dot stands for.
use Rattle.std.specs.Prelude.{ℕ, ◌+◌, ◌-◌, List, [], ◌∷◌, ◌++◌, ◌==◌, if◌then◌else◌}
use Rattle.rc_pattern.specs.Re.{Re, Range, byte_in, char_in}
use Rattle.rc_pattern.specs.declared.hir.dots.Dot.{Dot}
use Rattle.rc_pattern.specs.declared.hir.dots.Dot.TheVariants.{AnyChar, AnyByte, AnyCharExcept, AnyByteExcept, AnyCharExceptCRLF, AnyByteExceptCRLF}

-- the character before c, where no character stands between U+D7FF and U+E000
abbrev pub char_before : ℕ → ℕ
char_before c = if c == 0xE000 then 0xD7FF else c - 1

-- the character after c
abbrev pub char_after : ℕ → ℕ
char_after c = if c == 0xD7FF then 0xE000 else c + 1

-- all characters but c
abbrev pub chars_except : ℕ → List Range
chars_except c =
    (if c == 0 then [] else (0, char_before c) ∷ []) ++ (if c == 0x10FFFF then [] else (char_after c, 0x10FFFF) ∷ [])

-- all bytes but b
abbrev pub bytes_except : ℕ → List Range
bytes_except b = (if b == 0 then [] else (0, b - 1) ∷ []) ++ (if b == 255 then [] else (b + 1, 255) ∷ [])

-- the class of what the dot leaves in
abbrev pub dot_of : Dot → Re
dot_of AnyChar = char_in ((0, 0x10FFFF) ∷ [])
dot_of AnyByte = byte_in ((0, 255) ∷ [])
dot_of (AnyCharExcept c) = char_in (chars_except c)
dot_of (AnyByteExcept b) = byte_in (bytes_except b)
dot_of AnyCharExceptCRLF = char_in ((0, 9) ∷ (11, 12) ∷ (14, 0x10FFFF) ∷ [])
dot_of AnyByteExceptCRLF = byte_in ((0, 9) ∷ (11, 12) ∷ (14, 255) ∷ [])
