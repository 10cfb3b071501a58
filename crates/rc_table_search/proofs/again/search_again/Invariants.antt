use Rattle.rc_table_search.proofs.again.search_again.Given as goal

abbrev pub ghost-begin : goal.ghost-begin
ghost-begin g a = g.origin
