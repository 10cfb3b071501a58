use Rattle.rc_lazy_dfa.proofs.half.Half.begin.Given as goal

abbrev pub ghost-name : goal.ghost-name
ghost-name g a = g.f

abbrev pub ghost-write_start : goal.ghost-write_start
ghost-write_start g a = g.f
