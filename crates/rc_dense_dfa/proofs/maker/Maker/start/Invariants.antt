use Rattle.rc_dense_dfa.proofs.maker.Maker.start.Given as goal

abbrev pub ghost-name : goal.ghost-name
ghost-name g a = g.m
