-- DFA: two tables as the halves of a search.
use Rattle.std.specs.Prelude.{◌≡◌, ℕ, ◌+◌, ◌*◌, List, length, Option, slice_index_or}
use Rattle.rc_program.specs.Program.{place_at}
use Rattle.rc_program.specs.Answer.{pattern_at}
use Rattle.rc_determinize.specs.States.{State}
use Rattle.rc_dfa.specs.declared.automaton.Automaton.{Automaton}
use Rattle.rc_dfa.specs.declared.automaton.Direction.TheVariants.{Forwards, Backwards}
use Rattle.rc_dfa.specs.Machine.{Machine}
use Rattle.rc_dfa.specs.Automata.{machine_of, samples_of}
use Rattle.rc_dense_dfa.specs.Tables.{IsTable}
use Rattle.rc_dense_dfa.specs.Makes.{IsMade}
use Rattle.rc_dense_dfa.specs.declared.table.Table.{Table}
use Rattle.rc_dense_dfa.specs.declared.dense.Dense.{Dense}

-- For each place of the program, the pattern whose match place it is; 0 if it is none.
abbrev pub ArePatterns : Machine → List ℕ → Type 0
ArePatterns m patterns = (place : ℕ) → slice_index_or patterns place 0 ≡ pattern_at (place_at m.setting.places place)

-- They are tables of the first machine forwards and of the second backwards, with the pattern of
-- each match place.
pub record AreHalves (d : Dense) (m n : Machine) : Type 0 where
  pub ahead : List State
  pub is_ahead : IsTable m ahead d.forward
  pub behind : List State
  pub is_behind : IsTable n behind d.reverse
  pub patterns : ArePatterns m d.patterns.items

-- Its tables are made of the automaton, each within the limit.
pub record AreTablesOf (a : Automaton) (limit : Option ℕ) (d : Dense) : Type 0 where
  pub forward : IsMade (machine_of a Forwards) (length (samples_of a)) limit d.forward
  pub reverse : IsMade (machine_of a Backwards) (length (samples_of a)) limit d.reverse
  pub patterns : ArePatterns (machine_of a Forwards) d.patterns.items

-- How many bytes the parts of a table take.
abbrev pub bytes_of : Table → ℕ
bytes_of d = length d.classes.items + length d.idles.items + 4 * length d.exits.items + 312 * length d.leaps.items + 8 * (length d.cells.items + length d.ends.items + length d.tells.items + length d.starts.items)
