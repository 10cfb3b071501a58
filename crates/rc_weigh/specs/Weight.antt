-- How heavy patterns are by what is laid out for them: a bound on the places and the ways of their
-- byte program, and on the ranges that their program keeps.
use Rattle.std.specs.Prelude.{ℕ, ◌+◌, ◌*◌, max, List, [], ◌∷◌, length}
use Rattle.rc_pattern.specs.Re.{Re, Range, empty, literal, byte_in, char_in, look, repeat, capture, cat, alt, none}
use Rattle.rc_pattern.specs.Weight.{copies_of}
use Rattle.rc_program.specs.Program.{Place, branch, scalar}
use Rattle.rc_utf8.specs.Bytes.{bytes_of}

-- How many ways a branch has.
abbrev pub way_count : Place → ℕ
way_count (branch ways) = length ways
way_count _ = 0

-- How many places there are, with the ways of the branches among them.
abbrev pub laid_out : List Place → ℕ
laid_out [] = 0
laid_out (q ∷ qs) = 1 + way_count q + laid_out qs

-- A class of characters weighs the places and the ways of its own byte program, and 1 for each of
-- its ranges.
abbrev pub class_weight : List Range → ℕ
class_weight rs = laid_out (bytes_of (scalar rs 0 ∷ [])) + length rs

-- All else weighs as by the stated grammar.
abbrev pub laid_weight : Re → ℕ
laid_weight empty = 1
laid_weight (literal bs) = max 1 (length bs)
laid_weight (byte_in rs) = 1
laid_weight (char_in rs) = class_weight rs
laid_weight (look l) = 1
laid_weight (repeat min max greedy a) = copies_of min max * (laid_weight a + 2) + 2
laid_weight (capture n name a) = 2 + laid_weight a
laid_weight (cat a rest) = laid_weight a + laid_weight rest
laid_weight (alt a rest) = 1 + laid_weight a + laid_weight rest
laid_weight none = 2

-- The weights of the patterns, with 3 for each.
abbrev pub sum_of_laid : List Re → ℕ
sum_of_laid [] = 0
sum_of_laid (h ∷ hs) = laid_weight h + 3 + sum_of_laid hs

-- The weight of a list of patterns.
abbrev pub laid_list_weight : List Re → ℕ
laid_list_weight hs = 2 + sum_of_laid hs
