-- The lines of a text.
use Rattle.std.specs.Prelude.{◌≡◌, ℕ, ◌+◌, List, [], ◌∷◌, ◌==◌, if◌then◌else◌, Some, slice_get}

-- the byte stands before the first line
abbrev pub before_first : ℕ → List (List ℕ) → List (List ℕ)
before_first b [] = (b ∷ []) ∷ []
before_first b (line ∷ rest) = (b ∷ line) ∷ rest

-- the lines, each without its terminator; what stands after the last terminator is a line, where it has a byte
abbrev pub lines : (terminator : ℕ) → List ℕ → List (List ℕ)
lines t [] = []
lines t (b ∷ bytes) = if b == t then [] ∷ lines t bytes else before_first b (lines t bytes)

-- The text's bytes from start to end are lines: a terminator stands before them, or they begin the text, and a terminator stands behind them.
pub record AreLinesOf (terminator : ℕ) (text : List ℕ) (start end : ℕ) : Type 0 where
  pub before : (k : ℕ) → k + 1 ≡ start → slice_get text k ≡ Some terminator
  pub behind : slice_get text end ≡ Some terminator
