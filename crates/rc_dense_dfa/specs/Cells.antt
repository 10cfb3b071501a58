-- Transitions: cells of a table, as numbers.
use Rattle.std.specs.Prelude.{◌≡◌, ◌≢◌, ◌⊎◌, ℕ, ◌+◌, ◌%◌, Bool, ◌||◌, IsTrue, List, length, nat_le, nat_eq, slice_index_or}

-- Mark: a match was found on the way to the row.
abbrev pub met : ℕ
met = 9223372036854775808

-- Mark: nothing goes on from the row.
abbrev pub dead : ℕ
dead = 4611686018427387904

-- Mark: at the row, a search may have more to do than to read on.
abbrev pub skip : ℕ
skip = 2305843009213693952

-- No row: the byte may not be read.
abbrev pub quit : ℕ
quit = 18446744073709551615

-- The row that a cell names.
abbrev pub row_of : ℕ → ℕ
row_of cell = cell % skip

-- A cell as it was, or with the mark `SKIP`.
abbrev pub IsMarkedAs : ℕ → ℕ → Type 0
IsMarkedAs cell marked = (marked ≡ cell) ⊎ ((cell ≢ quit) × (marked ≡ cell + skip))

-- Cells, some of which were marked.
pub record AreMarked (cells marked : List ℕ) : Type 0 where
  pub len : length marked ≡ length cells
  pub each : (k : ℕ) → IsMarkedAs (slice_index_or cells k quit) (slice_index_or marked k quit)

-- The cell is `QUIT`, or the row that it names begins within so many cells.
abbrev pub is_named : ℕ → ℕ → ℕ → Bool
is_named width len cell = nat_eq cell quit || nat_le (row_of cell + width) len

abbrev pub IsNamed : ℕ → ℕ → ℕ → Type 0
IsNamed width len cell = IsTrue (is_named width len cell)

-- Each code of the list is 0, or that of what is found.
abbrev pub TellsOnly : List ℕ → ℕ → Type 0
TellsOnly codes found = (number k : ℕ) → slice_index_or codes number 0 ≡ k + 1 → k ≡ found
