use Rattle.rc_table_search.proofs.again.stretch_from.Given as goal

abbrev pub ghost-stretch : goal.ghost-stretch
ghost-stretch g a = record { seen = a.input.now; begun = a.cache.now; row = a.begin.row }
