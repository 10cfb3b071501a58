-- The states that searches can reach have places of the program alone, and marks between them where the longest match is sought.
use Rattle.std.proofs.Common.{length, Some}
use Rattle.rc_determinize.specs.Steps.{AreBelow}
use Rattle.rc_determinize.specs.States.{State}
use Rattle.rc_dfa.specs.Machine.{Machine, IsMachine, entry_bound}
use Rattle.rc_dfa.proofs.WithinLemmas.{machine_law}
use Rattle.rc_dense_dfa.specs.Tables.{IsReached, dead_one, begins, goes_on}

pub reached_below : (m : Machine) (s : State) → IsMachine m → IsReached m s → AreBelow (entry_bound m.direction (length m.setting.places)) s.list
reached_below m s k dead_one = λ q h. absurd h
reached_below m s k (begins anchored beside asked byte read b) = (machine_law.begins m anchored beside s k b).below
reached_below m s k (goes_on r b reached lt read l) = (machine_law.leads m r s (Some b) k l).below
