use Rattle.rc_pikevm.proofs.reach.choose_far.Given as goal

abbrev pub ghost-pass_far : goal.ghost-pass_far
ghost-pass_far g a = a.input.now
