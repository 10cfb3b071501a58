-- An entry: a match, and how many bytes settle it.
use Rattle.std.specs.Prelude.{ℕ, min, if◌then◌else◌, nat_lt}
use Rattle.rc_text.specs.Found.{Found}

-- A match of a list. The bytes before its end settle it, with so many after its end.
pub record Entry : Type 0 where
  pub found : Found
  pub ahead : ℕ

-- How an entry is stored.

-- The number of bytes after its end, as a `u32`: the greatest one stands for all that are not less.
abbrev pub stored_ahead : ℕ → ℕ
stored_ahead n = min n 4294967295

-- The number that is stored so. The greatest `u32` stands for as many bytes as any text may have.
abbrev pub ahead_of : ℕ → ℕ
ahead_of n = if nat_lt n 4294967295 then n else 18446744073709551615
