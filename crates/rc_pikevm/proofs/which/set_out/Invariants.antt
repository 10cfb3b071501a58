use Rattle.rc_pikevm.proofs.which.set_out.Given as goal

abbrev pub ghost-enter_each : goal.ghost-enter_each
ghost-enter_each g a = g.text

abbrev pub ghost-spread : goal.ghost-spread
ghost-spread g a = g.text
