use Rattle.rc_dense_dfa.proofs.build.begun.Given as goal

abbrev pub ghost-maker_of : goal.ghost-maker_of
ghost-maker_of g a = g.m
