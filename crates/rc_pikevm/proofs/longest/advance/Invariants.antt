use Rattle.rc_pikevm.proofs.longest.advance.Given as goal

abbrev pub ghost-step : goal.ghost-step
ghost-step g a = g.text

abbrev pub ghost-spread : goal.ghost-spread
ghost-spread g a = g.text

abbrev pub ghost-way_in : goal.ghost-way_in
ghost-way_in g a = g.text

abbrev pub ghost-is_dead : goal.ghost-is_dead
ghost-is_dead g a = g.text
