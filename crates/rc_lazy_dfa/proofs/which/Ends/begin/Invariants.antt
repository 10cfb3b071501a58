use Rattle.rc_lazy_dfa.proofs.which.Ends.begin.Given as goal

abbrev pub ghost-begin : goal.ghost-begin
ghost-begin g a = g.o.frame
