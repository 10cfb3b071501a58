-- Which names a glob fits.
use Rattle.std.specs.Prelude.{ℕ, Bool, true, false, ◌==◌, ◌&&◌, ◌||◌, List, [], ◌∷◌, if◌then◌else◌}

abbrev pub is_none : List ℕ → Bool
is_none [] = true
is_none (b ∷ text) = false

-- the test passes the text, or what is left of it without some of its first bytes
abbrev pub some_end : (List ℕ → Bool) → List ℕ → Bool
some_end test [] = test []
some_end test (b ∷ text) = test (b ∷ text) || some_end test text

-- the text begins with the byte, or with any one where the byte is `?`, 63, and the test passes the rest
abbrev pub first_and : ℕ → (List ℕ → Bool) → List ℕ → Bool
first_and byte test [] = false
first_and byte test (b ∷ text) = test text && (byte == 63 || byte == b)

-- a name fits a glob, in which `*`, 42, stands for any bytes, `?` for one, and each other byte for itself
abbrev pub fits : (glob name : List ℕ) → Bool
fits [] name = is_none name
fits (byte ∷ glob) name = if byte == 42 then some_end (fits glob) name else first_and byte (fits glob) name
