use Rattle.rc_strategy.proofs.tables.tables_of.Given as goal

abbrev pub ghost-automaton_for : goal.ghost-automaton_for
ghost-automaton_for g a = g.hs

abbrev pub ghost-symbols_of : goal.ghost-symbols_of
ghost-symbols_of g a = g.hs

abbrev pub ghost-dense_of : goal.ghost-dense_of
ghost-dense_of g a = g.hs
