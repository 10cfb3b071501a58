use Rattle.rc_pikevm.proofs.closure.close.Given as goal

abbrev pub ghost-enter : goal.ghost-enter
ghost-enter g a = g.text

abbrev pub ghost-drain : goal.ghost-drain
ghost-drain g a = g.text
