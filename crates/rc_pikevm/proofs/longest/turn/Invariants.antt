use Rattle.rc_pikevm.proofs.longest.turn.Given as goal

abbrev pub ghost-advance : goal.ghost-advance
ghost-advance g a = g.text
