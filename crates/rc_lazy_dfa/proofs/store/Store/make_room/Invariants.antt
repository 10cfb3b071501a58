use Rattle.rc_lazy_dfa.proofs.store.Store.make_room.Given as goal

abbrev pub ghost-clear : goal.ghost-clear
ghost-clear g a = g.f
