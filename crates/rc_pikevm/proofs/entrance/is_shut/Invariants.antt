use Rattle.rc_pikevm.proofs.entrance.is_shut.Given as goal

abbrev pub ghost-look_up : goal.ghost-look_up
ghost-look_up g a = g.text

abbrev pub ghost-is_dead : goal.ghost-is_dead
ghost-is_dead g a = g.text
