use Rattle.rc_lazy_dfa.proofs.which.Ends.step.Given as goal

abbrev pub ghost-insert : goal.ghost-insert
ghost-insert g a = g.o.frame

abbrev pub ghost-collect : goal.ghost-collect
ghost-collect g a = g.o.frame

abbrev pub ghost-follow : goal.ghost-follow
ghost-follow g a = g.o.frame
