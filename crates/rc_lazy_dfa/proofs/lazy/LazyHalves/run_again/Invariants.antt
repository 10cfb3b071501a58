use Rattle.rc_lazy_dfa.proofs.lazy.LazyHalves.run_again.Given as goal

abbrev pub ghost-search_again : goal.ghost-search_again
ghost-search_again g a = record { seen = a.input.now; begun = a.cache.now }
