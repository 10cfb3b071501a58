use Rattle.rc_lazy_dfa.proofs.half.Half.next.Given as goal

abbrev pub ghost-follow : goal.ghost-follow
ghost-follow g a = g.f
