-- Only proofs use this file.
-- DFA searches: what the tables say.
use Rattle.std.specs.Prelude.{◌≡◌, ℕ, ◌+◌, ◌≤◌, Bool, true, false, List, length, Some}
use Rattle.rc_determinize.specs.States.{State}
use Rattle.rc_dfa.specs.Machine.{Machine, bytes}
use Rattle.rc_table_search.specs.Views.{View}
use Rattle.rc_dense_dfa.specs.Tables.{IsTable, IsRow}
use Rattle.rc_dense_dfa.specs.Halves.{ArePatterns}
use Rattle.rc_dense_dfa.specs.declared.table.Table.{Table}
use Rattle.rc_dense_dfa.specs.declared.dense.Dense.{Dense}
use Rattle.rc_dense_dfa.specs.declared.dense.NoCache.{NoCache}

-- The row is within the cells.
abbrev pub InRow : Table → ℕ → Type 0
InRow d row = row + d.width ≤ length d.cells.items

-- By these classes of the bytes, the row is one of the table.
pub record IsRowBy (d : Table) (classes : List ℕ) (row : ℕ) : Type 0 where
  pub same : classes ≡ d.classes.items
  pub within : InRow d row

-- By this machine, the row is that of the state.
pub record HasState (d : Table) (m : Machine) (row : ℕ) (s : State) : Type 0 where
  pub states : List State
  pub is_table : IsTable m states d
  pub is_row : IsRow d states row s

-- The table of a direction.
abbrev pub table_by : Bool → Dense → Table
table_by false d = d.forward
table_by true d = d.reverse

-- What the table of a direction says. A note is a row.
abbrev pub view_of : Dense → Bool → View NoCache
view_of d backwards = record {
  IsOf = λ m. ((states : List State) × IsTable m states (table_by backwards d)) × (backwards ≡ false → ArePatterns m d.patterns.items);
  alphabet = bytes;
  IsCache = λ c. Unit {0};
  IsRow = λ c row. InRow (table_by backwards d) row;
  HasState = λ c m row s. HasState (table_by backwards d) m row s;
  IsNote = λ m note k. (s : State) × HasState (table_by backwards d) m note s × (s.matched ≡ Some k);
  leaps = true;
  Spends = λ a b n. Unit {0};
  GivesUp = λ a b n memory. ⊥;
  era = λ c. 0;
}
