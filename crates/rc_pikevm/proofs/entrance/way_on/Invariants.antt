use Rattle.rc_pikevm.proofs.entrance.way_on.Given as goal

abbrev pub ghost-is_shut : goal.ghost-is_shut
ghost-is_shut g a = g.text
