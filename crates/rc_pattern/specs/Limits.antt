-- What is bounded by the size of a number.
use Rattle.std.specs.Prelude.{ℕ}

-- the greatest weight of patterns that are built, so that each place of a program has a number
abbrev pub greatest_weight : ℕ
greatest_weight = 2147483646
