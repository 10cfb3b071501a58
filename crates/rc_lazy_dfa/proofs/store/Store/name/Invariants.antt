use Rattle.rc_lazy_dfa.proofs.store.Store.name.Given as goal

abbrev pub ghost-make_room : goal.ghost-make_room
ghost-make_room g a = g.f

abbrev pub ghost-add : goal.ghost-add
ghost-add g a = g.f
