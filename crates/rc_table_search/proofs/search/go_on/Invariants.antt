use Rattle.rc_table_search.proofs.search.go_on.Given as goal

abbrev pub ghost-cross : goal.ghost-cross
ghost-cross g a = g.outset

abbrev pub ghost-finish : goal.ghost-finish
ghost-finish g a = g.outset
