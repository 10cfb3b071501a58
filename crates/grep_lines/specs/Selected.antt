-- Which lines are selected. Lines end in the byte `t`.
use Rattle.std.specs.Prelude.{◌≡◌, ◌≢◌, ◌≤◌, ◌<◌, ℕ, ◌+◌, Bool, false, not, true, List, [], ◌∷◌, ◌++◌, Option, Some, filter, length, slice_index, slice_range}
use Rattle.grep_lines.specs.Lines.{AreLinesOf, lines}
use Rattle.grep_lines.specs.declared.select.Passed.{Passed}

-- The first line of a text was read, and `left` holds the others; or there is no line.
abbrev pub TakesLine : (terminator : ℕ) → List ℕ → Bool → (line : List ℕ) (left : Option (List ℕ)) → Type 0
TakesLine t text true line left = (rest : List ℕ) × (left ≡ Some rest) × (lines t text ≡ line ∷ lines t rest)
TakesLine t text false line left = lines t text ≡ []

-- The first line of a text was read: so many bytes, selected or not. `left` holds the others.
pub record PassesLine (t : ℕ) (picks : List ℕ → Bool) (text : List ℕ) (left : Option (List ℕ)) (p : Passed) : Type 0 where
  pub line : List ℕ
  pub taken : TakesLine t text true line left
  pub counted : p.len ≡ length line
  pub picked : p.is_selected ≡ picks line

-- A line ends at `end`, the first terminator from the place on. It is unlike the lines before, and so is all from the beginning of one of
-- them, or of its own, up to there.
pub record IsTurn (t : ℕ) (picks : List ℕ → Bool) (before : Bool) (page : List ℕ) (place end : ℕ) : Type 0 where
  pub behind : place ≤ end
  pub within : end < length page
  pub ended : slice_index page end ≡ t
  pub first : (k : ℕ) → place ≤ k → k < end → slice_index page k ≢ t
  pub unlike : (start : ℕ) → start ≤ place → AreLinesOf t page start end → picks (slice_range page start end) ≡ not before

-- None of the lines before what is left is selected.
pub record AreSkipped (t : ℕ) (picks : List ℕ → Bool) (text : List ℕ) (count : ℕ) (left : Option (List ℕ)) : Type 0 where
  pub rest : List ℕ
  pub known : left ≡ Some rest
  pub skipped : List (List ℕ)
  pub parts : lines t text ≡ skipped ++ lines t rest
  pub counted : count ≡ length skipped
  pub unselected : filter picks skipped ≡ []

-- The line is the first that is selected, and the n-th of all; `left` holds the text after it.
pub record IsNextSelected (t : ℕ) (picks : List ℕ → Bool) (text line : List ℕ) (left : Option (List ℕ)) (n : ℕ) : Type 0 where
  pub rest : List ℕ
  pub known : left ≡ Some rest
  pub skipped : List (List ℕ)
  pub parts : lines t text ≡ skipped ++ line ∷ lines t rest
  pub counted : n ≡ length skipped + 1
  pub unselected : filter picks skipped ≡ []
  pub selected : picks line ≡ true

-- Reading stopped where the bytes of the line were read, and `left` holds those after them; none of the lines before is selected.
pub record IsStopped (t : ℕ) (picks : List ℕ → Bool) (text line : List ℕ) (left : Option (List ℕ)) : Type 0 where
  pub rest : List ℕ
  pub known : left ≡ Some rest
  pub skipped : List (List ℕ)
  pub parts : lines t text ≡ skipped ++ lines t (line ++ rest)
  pub unselected : filter picks skipped ≡ []
