use Rattle.rc_strategy.proofs.tables.symbols_of.Given as goal

abbrev pub ghost-automaton_for : goal.ghost-automaton_for
ghost-automaton_for g a = g.hs
