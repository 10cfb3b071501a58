use Rattle.rc_lazy_dfa.proofs.which.Ends.go.Given as goal

abbrev pub ghost-begin : goal.ghost-begin
ghost-begin g a = g.o

abbrev pub ghost-cross : goal.ghost-cross
ghost-cross g a = g.o

abbrev pub ghost-finish : goal.ghost-finish
ghost-finish g a = g.o
