-- A pattern as contracts see it.
use Rattle.std.specs.Prelude.{ℕ, Bool, List, Option}
use Rattle.rc_pattern.specs.declared.hir.Look.{Look}

-- from the one number to the other, both included
abbrev pub Range : Type 0
Range = ℕ × ℕ

pub data Re : Type 0 where
  -- spells nothing; also the concatenation of no members
  empty : Re
  -- these bytes
  literal : List ℕ → Re
  -- one byte of the ranges
  byte_in : List Range → Re
  -- the UTF-8 bytes of one scalar of the ranges
  char_in : List Range → Re
  -- nothing, where the assertion holds
  look : Look → Re
  -- min, max (`None`: without bound), greedy, body
  repeat : ℕ → Option ℕ → Bool → Re → Re
  -- number, name, body
  capture : ℕ → Option (List ℕ) → Re → Re
  -- the first member of a concatenation, and the concatenation of the others
  cat : Re → Re → Re
  -- the first member of an alternation, and the alternation of the others
  alt : Re → Re → Re
  -- the alternation of no members
  none : Re
