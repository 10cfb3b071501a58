-- What is bounded by the size of a number.
use Rattle.std.specs.Prelude.{ℕ}

-- how many patterns are searched for at most, so that each has a number
abbrev pub most_patterns : ℕ
most_patterns = 2147483647

-- the greatest number of a pattern
abbrev pub greatest_pattern : ℕ
greatest_pattern = 2147483646
