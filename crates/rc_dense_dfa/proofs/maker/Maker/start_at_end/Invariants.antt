use Rattle.rc_dense_dfa.proofs.maker.Maker.start_at_end.Given as goal

abbrev pub ghost-start : goal.ghost-start
ghost-start g a = g.m
