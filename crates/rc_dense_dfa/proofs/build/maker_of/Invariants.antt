use Rattle.rc_dense_dfa.proofs.build.maker_of.Given as goal

abbrev pub ghost-new : goal.ghost-new
ghost-new g a = g.m

abbrev pub ghost-name : goal.ghost-name
ghost-name g a = g.m
