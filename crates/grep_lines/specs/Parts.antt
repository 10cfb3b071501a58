-- Where the selected lines of a text stand.
use Rattle.std.specs.Prelude.{ℕ, ◌+◌, Bool, List, [], ◌∷◌, filter, length}
use Rattle.grep_lines.specs.Lines.{lines}

-- A line, its number, and the place where it begins.
pub record Placed : Type 0 where
  pub number : ℕ
  pub place : ℕ
  pub line : List ℕ

-- the lines, the first of which has this number and place
abbrev pub placed : (number place : ℕ) → List (List ℕ) → List Placed
placed number place [] = []
placed number place (line ∷ rest) = record { number = number; place = place; line = line } ∷ placed (number + 1) (place + length line + 1) rest

-- the selected lines of a text: numbers begin at 1, places at 0
abbrev pub selected : (terminator : ℕ) → (List ℕ → Bool) → (text : List ℕ) → List Placed
selected t picks text = filter (λ s. picks s.line) (placed 1 0 (lines t text))

-- the line, behind so many lines with so many bytes
abbrev pub shifted : (count bytes : ℕ) → Placed → Placed
shifted count bytes s = record { number = count + s.number; place = bytes + s.place; line = s.line }
