use Rattle.rc_pikevm.proofs.closure.enter.Given as goal

abbrev pub ghost-act : goal.ghost-act
ghost-act g a = g.text
