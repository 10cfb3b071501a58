use Rattle.rc_pikevm.proofs.which.advance.Given as goal

abbrev pub ghost-step : goal.ghost-step
ghost-step g a = g.text

abbrev pub ghost-set_out : goal.ghost-set_out
ghost-set_out g a = g.text
