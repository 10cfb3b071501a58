-- What is counted of a list of patterns.
use Rattle.std.specs.Prelude.{ℕ, ◌+◌, List, [], ◌∷◌, Option, None, option_map}
use Rattle.rc_pattern.specs.Re.{Re}
use Rattle.rc_pattern.specs.Properties.{common, saturated, static_explicit_captures_len}

-- the number, where each of the patterns has the same
abbrev pub agreed : Option ℕ → List Re → Option ℕ
agreed n [] = n
agreed n (h ∷ hs) = agreed (common n (static_explicit_captures_len h)) hs

-- how many explicit groups take part in each match, where that is one number for all patterns
abbrev pub static_groups : List Re → Option ℕ
static_groups [] = None
static_groups (h ∷ hs) = agreed (static_explicit_captures_len h) hs

-- the same with group 0
abbrev pub static_captures_len : List Re → Option ℕ
static_captures_len hs = option_map (λ k. saturated (k + 1)) (static_groups hs)
