-- How heavy a pattern is: a bound on the places of its program. A weight is a whole number without bound.
use Rattle.std.specs.Prelude.{ℕ, ◌+◌, ◌*◌, max, List, [], ◌∷◌, length, Option, Some, None}
use Rattle.rc_pattern.specs.Re.{Re, empty, literal, byte_in, char_in, look, repeat, capture, cat, alt, none}

-- how many copies of a body count
abbrev pub copies_of : ℕ → Option ℕ → ℕ
copies_of min None = min + 1
copies_of min (Some most) = max 1 most

abbrev pub weight : Re → ℕ
weight empty = 1
weight (literal bs) = max 1 (length bs)
weight (byte_in rs) = 1
weight (char_in rs) = 1 + 84 * length rs
weight (look l) = 1
weight (repeat min max greedy a) = copies_of min max * (weight a + 2) + 2
weight (capture n name a) = 2 + weight a
weight (cat a rest) = weight a + weight rest
weight (alt a rest) = 1 + weight a + weight rest
weight none = 2

-- the weights of the patterns, with 3 for each
abbrev pub sum_of_weights : List Re → ℕ
sum_of_weights [] = 0
sum_of_weights (h ∷ hs) = weight h + 3 + sum_of_weights hs

-- the weight of a list of patterns
abbrev pub list_weight : List Re → ℕ
list_weight hs = 2 + sum_of_weights hs
