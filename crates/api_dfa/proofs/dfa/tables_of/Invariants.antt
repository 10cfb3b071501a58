use Rattle.rc_program.specs.Program.{shown}
use Rattle.api_dfa.proofs.dfa.tables_of.Given as goal

abbrev pub ghost-automaton_of : goal.ghost-automaton_of
ghost-automaton_of g a = shown g.q.grouped g.q.patterns
