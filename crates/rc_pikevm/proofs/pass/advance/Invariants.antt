use Rattle.rc_pikevm.proofs.pass.advance.Given as goal

abbrev pub ghost-step : goal.ghost-step
ghost-step g a = g.text

abbrev pub ghost-close : goal.ghost-close
ghost-close g a = g.text

abbrev pub ghost-set_out : goal.ghost-set_out
ghost-set_out g a = g.text

abbrev pub ghost-way_in : goal.ghost-way_in
ghost-way_in g a = g.text

abbrev pub ghost-is_dead : goal.ghost-is_dead
ghost-is_dead g a = g.text
