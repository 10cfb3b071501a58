-- Only proofs use this file.
-- Thompson's construction: one pattern as a program has it.
use Rattle.std.specs.Prelude.{ℕ, min, Bool, if◌then◌else◌}
use Rattle.rc_pattern.specs.Re.{Re, repeat, capture, cat, alt}
use Rattle.rc_program.specs.Program.{Part, part}

-- The greatest group number. Patterns that are light enough for a program have none above it.
abbrev pub greatest_group : ℕ
greatest_group = 2147483647

-- The pattern with its groups, or with each group as its body. A greater group number counts as the
-- greatest.
abbrev pub shown_one : Bool → Re → Re
shown_one groups (repeat min max greedy a) = repeat min max greedy (shown_one groups a)
shown_one groups (capture n name a) =
    if groups then capture (min n greatest_group) name (shown_one groups a) else shown_one groups a
shown_one groups (cat a rest) = cat (shown_one groups a) (shown_one groups rest)
shown_one groups (alt a rest) = alt (shown_one groups a) (shown_one groups rest)
shown_one groups h = h

-- Its part of a program.
abbrev pub laid : Bool → Re → Part
laid groups h = part (shown_one groups h)
