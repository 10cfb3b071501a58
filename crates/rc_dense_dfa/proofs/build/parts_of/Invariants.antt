use Rattle.rc_dense_dfa.proofs.build.parts_of.Given as goal

abbrev pub ghost-begun : goal.ghost-begun
ghost-begun g a = g.m

abbrev pub ghost-starts_of : goal.ghost-starts_of
ghost-starts_of g a = g.m

abbrev pub ghost-rows_of : goal.ghost-rows_of
ghost-rows_of g a = g.m
