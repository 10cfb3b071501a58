use Rattle.rc_lazy_dfa.proofs.half.Half.follow.Given as goal

abbrev pub ghost-lead : goal.ghost-lead
ghost-lead g a = g.f

abbrev pub ghost-name : goal.ghost-name
ghost-name g a = g.f

abbrev pub ghost-write : goal.ghost-write
ghost-write g a = g.f
