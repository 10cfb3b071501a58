use Rattle.rc_pikevm.proofs.pass.turn_by.Given as goal

abbrev pub ghost-turn : goal.ghost-turn
ghost-turn g a = g.text

abbrev pub ghost-turn-2 : goal.ghost-turn-2
ghost-turn-2 g a = g.text
