use Rattle.rc_lazy_dfa.proofs.half.Half.name.Given as goal

abbrev pub ghost-name : goal.ghost-name
ghost-name g a = g.f
