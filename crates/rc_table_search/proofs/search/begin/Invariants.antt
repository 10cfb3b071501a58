use Rattle.rc_table_search.proofs.search.begin.Given as goal

abbrev pub ghost-start_by : goal.ghost-start_by
ghost-start_by g a = g.origin.seen
