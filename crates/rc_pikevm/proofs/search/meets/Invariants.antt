use Rattle.rc_pikevm.proofs.search.meets.Given as goal

abbrev pub ghost-pass : goal.ghost-pass
ghost-pass g a = a.input.now
