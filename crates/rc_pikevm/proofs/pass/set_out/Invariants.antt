use Rattle.rc_pikevm.proofs.pass.set_out.Given as goal

abbrev pub ghost-close : goal.ghost-close
ghost-close g a = g.text

abbrev pub ghost-way_in : goal.ghost-way_in
ghost-way_in g a = g.text
