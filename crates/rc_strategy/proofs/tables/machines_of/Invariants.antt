use Rattle.rc_strategy.proofs.tables.machines_of.Given as goal

abbrev pub ghost-tables_of : goal.ghost-tables_of
ghost-tables_of g a = g.hs
