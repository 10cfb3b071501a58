use Rattle.rc_dense_dfa.proofs.names.Names.name.Given as goal

abbrev pub ghost-number : goal.ghost-number
ghost-number g a = g.m
