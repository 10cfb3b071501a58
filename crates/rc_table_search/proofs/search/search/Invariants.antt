use Rattle.rc_table_search.proofs.search.search.Given as goal

abbrev pub ghost-begin : goal.ghost-begin
ghost-begin g a = g.origin

abbrev pub ghost-go_on : goal.ghost-go_on
ghost-go_on g a = record { seen = g.origin.seen; begun = a.cache.now; row = a.begin.row }
