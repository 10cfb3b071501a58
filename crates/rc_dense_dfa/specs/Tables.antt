-- Transition tables: their states and cells.
use Rattle.std.specs.Prelude.{◌≡◌, ℕ, ◌+◌, ◌*◌, ◌<◌, ◌⊎◌, Bool, false, is_some, List, [], ◌∷◌, length, Option, Some, None, slice_get, slice_index_or, if◌then◌else◌}
use Rattle.rc_text.specs.declared.types.Anchored.{Anchored}
use Rattle.rc_text.specs.declared.types.Anchored.TheVariants.{No, Yes, Pattern}
use Rattle.rc_determinize.specs.Sides.{IsReadable}
use Rattle.rc_determinize.specs.States.{State}
use Rattle.rc_dfa.specs.Machine.{Machine, bytes, Leads, Begins, IsAsked, is_dead, is_idle}
use Rattle.rc_dfa.specs.Runs.{IsByte}
use Rattle.rc_dense_dfa.specs.Cells.{met, dead, skip, quit}
use Rattle.rc_dense_dfa.specs.declared.table.Table.{Table}

-- The marks of a state's name.
abbrev pub marks : State → ℕ
marks s = (if is_some s.matched then met else 0) + (if is_dead s then dead else 0)

-- The row of the state.
abbrev pub IsRow : Table → List State → ℕ → State → Type 0
IsRow d states row s = (id : ℕ) × (slice_get states id ≡ Some s) × (row ≡ id * d.width)

-- The cell names the state's row, with its marks, and with `SKIP` or not.
abbrev pub Names : Table → List State → ℕ → State → Type 0
Names d states cell s = (row : ℕ) × IsRow d states row s × (skips : Bool) × (cell ≡ row + marks s + (if skips then skip else 0))

-- A find, as a number.
abbrev pub code_of : Option ℕ → ℕ
code_of None = 0
code_of (Some k) = k + 1

abbrev pub class_at : Table → ℕ → ℕ
class_at d b = slice_index_or d.classes.items b 0

abbrev pub cell_at : Table → ℕ → ℕ
cell_at d i = slice_index_or d.cells.items i quit

abbrev pub start_at : Table → ℕ → ℕ
start_at d i = slice_index_or d.starts.items i quit

-- The column of a byte among the start cells, or of the end.
abbrev pub column : Table → Option ℕ → ℕ
column d (Some b) = class_at d b
column d None = d.width

-- The number of a kind of anchoring.
abbrev pub mode_of : Anchored → ℕ
mode_of No = 0
mode_of Yes = 1
mode_of (Pattern p) = p + 2

-- The table of the machine, which reads bytes. Its rows are those of these states, in this order.
pub record IsTable (m : Machine) (states : List State) (d : Table) : Type 0 where
  pub reads : m.alphabet ≡ bytes
  pub rows : length d.cells.items ≡ length states * d.width
  -- A byte leads where the cell says, or may not be read.
  pub leads : (row b : ℕ) (s : State) → b < 256 → IsRow d states row s →
      ((cell_at d (row + class_at d b) ≡ quit) × (¬ IsReadable m.setting.needs (Some b)))
      ⊎ (IsReadable m.setting.needs (Some b) × ((t : State) × Leads m s (Some b) t × Names d states (cell_at d (row + class_at d b)) t))
  -- The codes of what is found at the end.
  pub ends : (id : ℕ) (s : State) → slice_get states id ≡ Some s →
      (t : State) × Leads m s None t × (slice_get d.ends.items id ≡ Some (code_of t.matched))
  -- The codes of what was found before.
  pub tells : (id : ℕ) (s : State) → slice_get states id ≡ Some s → slice_get d.tells.items id ≡ Some (code_of s.matched)
  -- Where a search may rest.
  pub idles : (id : ℕ) (s : State) → slice_get states id ≡ Some s → slice_get d.idles.items id ≡ Some (is_idle s)
  -- Where a search begins.
  pub begins : (anchored : Anchored) (beside : Option ℕ) → IsAsked m anchored → IsByte beside →
      ((start_at d (mode_of anchored * (d.width + 1) + column d beside) ≡ quit) × (¬ IsReadable m.setting.needs beside))
      ⊎ (IsReadable m.setting.needs beside × ((s : State) × Begins m anchored beside s × Names d states (start_at d (mode_of anchored * (d.width + 1) + column d beside)) s))
  pub starts : length d.starts.items ≡ (length m.entries + 2) * (d.width + 1)

-- THE SIZE OF A TABLE

-- Nothing goes on from it, no fact about the byte beside is true, and no match was found.
abbrev pub dead_state : State
dead_state = record {
  list = [];
  beside = record { edge = false; terminator = false; line_feed = false; carriage_return = false; word = false; letter = false; broken = false };
  goes_on = false;
  matched = None;
}

-- The states that searches can reach, and the dead one.
pub data IsReached (m : Machine) : State → Type 0 where
  dead_one : IsReached m dead_state
  begins : {s : State} (anchored : Anchored) (beside : Option ℕ) → IsAsked m anchored → IsByte beside → IsReadable m.setting.needs beside →
      Begins m anchored beside s → IsReached m s
  goes_on : {s : State} (r : State) (b : ℕ) → IsReached m r → b < 256 → IsReadable m.setting.needs (Some b) → Leads m r (Some b) s → IsReached m s

-- How many entries their lists have.
abbrev pub listed_by : List State → ℕ
listed_by [] = 0
listed_by (s ∷ ss) = length s.list + listed_by ss

-- The weight of states: 8 bytes for each cell of a row and each start cell, and for each state 32
-- bytes and 8 for each entry of its list. Two more states are counted, with no entries: those for a
-- row not known yet, and for a byte that may not be read.
abbrev pub weight_of : ℕ → ℕ → List State → ℕ
weight_of width starts states = 8 * width * (length states + 2) + 8 * starts + 32 * (length states + 2) + 8 * listed_by states
