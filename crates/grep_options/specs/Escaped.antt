-- The pattern that matches a text alone.
use Rattle.std.specs.Prelude.{ℕ, Bool, List, ◌∷◌, ◌==◌, ◌||◌, if◌then◌else◌, encode_utf8}

-- the characters that have a meaning of their own in a pattern: \ . + * ? ( ) | [ ] { } ^ $
abbrev pub is_special : ℕ → Bool
is_special c =
    c == 92 || (c == 46 || (c == 43 || (c == 42 || (c == 63 || (c == 40 || (c == 41 || (c == 124
    || (c == 91 || (c == 93 || (c == 123 || (c == 125 || (c == 94 || c == 36))))))))))))

-- the bytes of a character, behind a backslash if it has a meaning of its own
abbrev pub escaped_letter : ℕ → List ℕ
escaped_letter c = if is_special c then 92 ∷ encode_utf8 c else encode_utf8 c
