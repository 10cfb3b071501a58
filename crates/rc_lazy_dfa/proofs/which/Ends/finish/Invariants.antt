use Rattle.rc_lazy_dfa.proofs.which.Ends.finish.Given as goal

abbrev pub ghost-insert : goal.ghost-insert
ghost-insert g a = g.o.frame
