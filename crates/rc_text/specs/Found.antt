-- What a match and its half are.
use Rattle.std.specs.Prelude.{ℕ}

-- A match: the number of its pattern, and its span.
pub record Found : Type 0 where
  pub pattern : ℕ
  pub start : ℕ
  pub end : ℕ

-- The end of a match, and the number of its pattern.
pub record HalfFound : Type 0 where
  pub pattern : ℕ
  pub offset : ℕ

-- the half of a match: its pattern, and its end
abbrev pub half_of : Found → HalfFound
half_of m = record { pattern = m.pattern; offset = m.end }
