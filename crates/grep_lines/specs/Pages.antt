-- Only proofs and the contracts of private functions use this file.
-- Whole lines at the beginning of a page.
use Rattle.std.specs.Prelude.{◌≡◌, ◌≢◌, ℕ, ◌+◌, ◌<◌, ◌≤◌, Bool, false, true, ◌==◌, List, [], Option, IfSome, length, take, slice_index}
use Rattle.std.specs.Io.KnownBytes.{Keeps}
use Rattle.grep_lines.specs.Lines.{lines}
use Rattle.grep_lines.specs.Selected.{TakesLine}

abbrev pub ends_line : (terminator : ℕ) → ℕ → Bool
ends_line t b = b == t

-- the text is empty, or its last byte is a terminator
abbrev pub IsWhole : (terminator : ℕ) → List ℕ → Type 0
IsWhole t text = (k : ℕ) → k + 1 ≡ length text → slice_index text k ≡ t

-- The page's bytes before `end` are so many whole lines, and no further line ends at the place or before.
pub record AreLinesBefore (t : ℕ) (page : List ℕ) (place end count : ℕ) : Type 0 where
  pub within : end ≤ place
  pub whole : IsWhole t (take end page)
  pub counted : count ≡ length (lines t (take end page))
  pub furthest : (k : ℕ) → end ≤ k → k < place → slice_index page k ≢ t

-- A reader that had `old` left has `new`: the first line was taken, or nothing.
abbrev pub MayTake : (terminator : ℕ) → Bool → (old new : Option (List ℕ)) (line : List ℕ) → Type 0
MayTake t true old new line = IfSome old (λ text. TakesLine t text true line new)
MayTake t false old new line = (line ≡ []) × Keeps old new
