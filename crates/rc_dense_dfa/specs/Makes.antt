-- DFA construction: what it gives.
use Rattle.std.specs.Prelude.{◌≡◌, ℕ, ◌+◌, ◌*◌, ◌<◌, ◌≤◌, List, length, Option, Some, slice_get, IfSome}
use Rattle.rc_determinize.specs.States.{State}
use Rattle.rc_dfa.specs.Machine.{Machine}
use Rattle.rc_dense_dfa.specs.declared.table.Table.{Table}
use Rattle.rc_dense_dfa.specs.declared.error.TableError.{TableError}
use Rattle.rc_dense_dfa.specs.declared.error.TableError.TheVariants.{Memory, TooBig}
use Rattle.rc_dense_dfa.specs.Tables.{IsTable, IsReached, dead_state, weight_of}

-- States that searches can reach, or the dead one, none twice.
pub record AreStates (m : Machine) (states : List State) : Type 0 where
  pub reached : (id : ℕ) (s : State) → slice_get states id ≡ Some s → IsReached m s
  pub once : (i j : ℕ) (s : State) → slice_get states i ≡ Some s → slice_get states j ≡ Some s → i ≡ j

-- The weight of these states in bytes, for so many byte classes.
abbrev pub weight_by : Machine → ℕ → List State → ℕ
weight_by m classes states = weight_of (classes + 1) ((length m.entries + 2) * (classes + 1)) states

-- It is a table of the machine, with so many byte classes. Its first row is that of the dead state.
-- All other states can be reached, and none is there twice. The states weigh no more than the
-- limit.
pub record IsMade (m : Machine) (classes : ℕ) (limit : Option ℕ) (d : Table) : Type 0 where
  pub states : List State
  pub is_table : IsTable m states d
  pub are_states : AreStates m states
  pub first : slice_get states 0 ≡ Some dead_state
  pub width : d.width ≡ classes
  pub light : IfSome limit (λ l. weight_by m classes states ≤ l)

-- Why none was made: out of memory, or some of the states weigh more than the limit.
abbrev pub IsRefused : Machine → ℕ → Option ℕ → TableError → Type 0
IsRefused m classes limit Memory = Unit {0}
IsRefused m classes limit TooBig = (l : ℕ) × (limit ≡ Some l) × (states : List State) × AreStates m states × (l < weight_by m classes states)
