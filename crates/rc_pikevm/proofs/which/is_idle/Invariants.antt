use Rattle.rc_pikevm.proofs.which.is_idle.Given as goal

abbrev pub ghost-is_shut : goal.ghost-is_shut
ghost-is_shut g a = g.text
