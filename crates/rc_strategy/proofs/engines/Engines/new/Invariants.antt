use Rattle.rc_strategy.proofs.engines.Engines.new.Given as goal

abbrev pub ghost-machines_of : goal.ghost-machines_of
ghost-machines_of g a = g.hs
