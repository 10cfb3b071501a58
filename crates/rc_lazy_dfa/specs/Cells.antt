-- Transitions: cells as numbers.
use Rattle.std.specs.Prelude.{ℕ, ◌+◌, ◌-◌, ◌%◌, Bool, is_some, List, Some, None, nat_le, slice_index_or, if◌then◌else◌}
use Rattle.rc_determinize.specs.States.{State}
use Rattle.rc_dfa.specs.Machine.{is_dead}
use Rattle.rc_dfa.specs.Symbols.{column_by}
use Rattle.rc_lazy_dfa.specs.declared.letters.Letter.{Letter}
use Rattle.rc_lazy_dfa.specs.declared.letters.Letter.TheVariants.{Alone, Tagged}

-- It isn't known where the byte leads.
abbrev pub unknown : ℕ
unknown = 2305843009213693952

-- Nothing goes on.
abbrev pub dead : ℕ
dead = 4611686018427387904

-- Mark: a match was found on the way.
abbrev pub met : ℕ
met = 9223372036854775808

-- The byte may not be read.
abbrev pub quit : ℕ
quit = 18446744073709551615

-- The row that a cell names.
abbrev pub row_of : ℕ → ℕ
row_of cell = cell % unknown

-- Nothing goes on where the cell leads.
abbrev pub has_died : ℕ → Bool
has_died cell = if nat_le met cell then nat_le dead (cell - met) else nat_le dead cell

-- The marks of a state's name.
abbrev pub marks : State → ℕ
marks s = (if is_some s.matched then met else 0) + (if is_dead s then dead else 0)

-- The column of what is read, in rows of this width.
abbrev pub column_of : List ℕ → ℕ → Letter → ℕ
column_of classes width (Alone (Some b)) = slice_index_or classes b 0
column_of classes width (Alone None) = width - 1
column_of classes width (Tagged y) = column_by classes y
