-- Runs over a piece of a text, by the cells of a table.
use Rattle.std.specs.Prelude.{◌≡◌, ℕ, ◌+◌, ◌-◌, ◌%◌, ◌<◌, ◌≤◌, Bool, true, false, List, length, Option, Some, nat_le, slice_index_or, if◌then◌else◌}

-- Mark: a match was found on the way to the row.
abbrev pub met : ℕ
met = 9223372036854775808

-- Mark: nothing goes on from the row.
abbrev pub dead : ℕ
dead = 4611686018427387904

-- The least mark.
abbrev pub skip : ℕ
skip = 2305843009213693952

-- No row: the byte may not be read.
abbrev pub quit : ℕ
quit = 18446744073709551615

-- How many bytes of a piece of this length are left to read at the place, backwards or forwards.
abbrev pub left_of : Bool → ℕ → ℕ → ℕ
left_of false len place = len - place
left_of true len place = place

-- The byte that is read next at the place.
abbrev pub byte_at : Bool → List ℕ → ℕ → ℕ
byte_at false piece place = slice_index_or piece place 0
byte_at true piece place = slice_index_or piece (place - 1) 0

-- The place after it.
abbrev pub next_of : Bool → ℕ → ℕ
next_of false place = place + 1
next_of true place = place - 1

-- The cell of a row and a byte.
abbrev pub cell_by : List ℕ → List ℕ → ℕ → ℕ → ℕ
cell_by cells classes row b = slice_index_or cells (row + slice_index_or classes b 0) 0

-- The row that a cell names.
abbrev pub row_of : ℕ → ℕ
row_of cell = cell % skip

-- Nothing goes on where the cell leads.
abbrev pub has_died : ℕ → Bool
has_died cell = if nat_le met cell then nat_le dead (cell - met) else nat_le dead cell

-- A run over a piece: by which cells and classes, over which bytes, at which position the first of
-- them stands, and in which direction. It goes from a place and a row on, and something may have been
-- noted before. If it leaps, it goes on at the mark `SKIP`.
pub record Walk : Type 0 where
  pub backwards : Bool
  pub leaps : Bool
  pub cells : List ℕ
  pub classes : List ℕ
  pub piece : List ℕ
  pub start : ℕ
  pub from : ℕ
  pub first : ℕ
  pub before : Option (ℕ × ℕ)

-- The cell to which the byte that is read next at the place leads.
abbrev pub cell_of : Walk → ℕ → ℕ → ℕ
cell_of w place row = cell_by w.cells w.classes row (byte_at w.backwards w.piece place)

-- Some byte is left to read at the place.
pub record HasByte (w : Walk) (place : ℕ) : Type 0 where
  pub within : place ≤ length w.piece
  pub some : 0 < left_of w.backwards (length w.piece) place

-- From where the run began, the bytes up to the place lead to the row. The row at which something
-- was found last is noted, with the position of that.
pub data Reaches (w : Walk) : ℕ → ℕ → Option (ℕ × ℕ) → Type 0 where
  begun : Reaches w w.from w.first w.before
  plain : {noted : Option (ℕ × ℕ)} (place row : ℕ) → Reaches w place row noted → HasByte w place → cell_of w place row < skip →
      Reaches w (next_of w.backwards place) (cell_of w place row) noted
  leapt : {noted : Option (ℕ × ℕ)} (place row to : ℕ) → Reaches w place row noted → HasByte w place → w.leaps ≡ true → cell_of w place row < met →
      to ≡ row_of (cell_of w place row) → Reaches w (next_of w.backwards place) to noted
  found : {noted : Option (ℕ × ℕ)} (place row : ℕ) → Reaches w place row noted → HasByte w place → met ≤ cell_of w place row → cell_of w place row - met < skip →
      Reaches w (next_of w.backwards place) (cell_of w place row - met) (Some (cell_of w place row - met, w.start + place))

-- The walk that goes on from there.
abbrev pub walk_from : Walk → ℕ → ℕ → Option (ℕ × ℕ) → Walk
walk_from w place row noted = record {
  backwards = w.backwards;
  leaps = w.leaps;
  cells = w.cells;
  classes = w.classes;
  piece = w.piece;
  start = w.start;
  from = place;
  first = row;
  before = noted;
}

-- The position at which a piece of this length begins that is read from the position on, and the
-- place in it at which it is read first.
abbrev pub start_of : Bool → ℕ → ℕ → ℕ
start_of false len at = at
start_of true len at = at - len

abbrev pub first_of : Bool → ℕ → ℕ
first_of false len = 0
first_of true len = len

-- The rows of a table: each byte of a row leads to a row by its cell, unless that cell has marks by
-- which a run does not go on.
pub record AreRows (IsRow : ℕ → Type 0) (leaps : Bool) (cells classes : List ℕ) : Type 0 where
  pub inside : (row b : ℕ) → IsRow row → b < 256 → (b < length classes) × (row + slice_index_or classes b 0 < length cells)
  pub plain : (row b : ℕ) → IsRow row → b < 256 → cell_by cells classes row b < skip → IsRow (cell_by cells classes row b)
  pub leapt : (row b : ℕ) → IsRow row → b < 256 → leaps ≡ true → skip ≤ cell_by cells classes row b → cell_by cells classes row b < dead →
      IsRow (cell_by cells classes row b - skip)
  pub found : (row b : ℕ) → IsRow row → b < 256 → met ≤ cell_by cells classes row b → cell_by cells classes row b - met < skip →
      IsRow (cell_by cells classes row b - met)
