use Rattle.rc_strategy.proofs.tables.automaton_for.Given as goal

abbrev pub ghost-automaton_of : goal.ghost-automaton_of
ghost-automaton_of g a = g.hs
