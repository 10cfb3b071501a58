use Rattle.rc_dfa_search.proofs.build.automaton_of.Given as goal

abbrev pub ghost-entries_of : goal.ghost-entries_of
ghost-entries_of g a = g.hs
