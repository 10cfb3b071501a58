use Rattle.rc_dfa.specs.Automata.{machine_of}
use Rattle.rc_dense_dfa.proofs.build.table_of.Given as goal

abbrev pub ghost-parts_of : goal.ghost-parts_of
ghost-parts_of a = machine_of a.automaton.now a.direction
