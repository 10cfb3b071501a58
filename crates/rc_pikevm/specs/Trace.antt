-- Only proofs use this file.
-- Capture slots: the trace of a walk. A row of slots has a cell for each column.
use Rattle.std.specs.Prelude.{ℕ, zero, suc, ◌+◌, List, [], ◌∷◌, Option, Some, None, slice_set, replicate}
use Rattle.rc_walks.specs.Walks.{Pair}
use Rattle.rc_program.specs.Columns.{column_at}
use Rattle.rc_program.specs.Program.{Place, slot, accept, place_at}

-- Where the walk began, the row of slots so far, and, once it has ended, the pattern and the end.
pub record Trace : Type 0 where
  pub start : ℕ
  pub slots : List (Option ℕ)
  pub ended : Option (ℕ × ℕ)

-- What a place notes at the position i; its slot is in this column.
abbrev pub note_at : ℕ → Place → Trace → ℕ → Trace
note_at column (slot k next) h i = record h { slots = slice_set h.slots column (Some i) }
note_at column (accept p) h i = record h { ended = Some (p, i) }
note_at column _ h i = h

abbrev pub note : List Place → Trace → Pair → Trace
note places h n = note_at (column_at places n.0) (place_at places n.0) h n.1

-- The trace of a thread that hasn't ended.
abbrev pub trace : ℕ → List (Option ℕ) → Trace
trace start slots = record { start = start; slots = slots; ended = None }

-- The trace of a walk of the pattern that has ended.
abbrev pub done : ℕ → ℕ → ℕ → List (Option ℕ) → Trace
done pattern start stop slots = record { start = start; slots = slots; ended = Some (pattern, stop) }

-- A thread that sets out at x, with `width` cells.
abbrev pub sets_out : ℕ → ℕ → Trace × Pair
sets_out width x = (trace x (replicate width None), (0, x))

-- The threads of `count` starts from x on.
abbrev pub starts : ℕ → ℕ → ℕ → List (Trace × Pair)
starts width x zero = []
starts width x (suc count) = sets_out width x ∷ starts width (x + 1) count
