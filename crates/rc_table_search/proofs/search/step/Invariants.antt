use Rattle.rc_table_search.proofs.search.step.Given as goal

abbrev pub ghost-cell_on : goal.ghost-cell_on
ghost-cell_on g a = g.outset.seen
