use Rattle.rc_lazy_dfa.proofs.lazy.LazyHalves.run_backwards.Given as goal

abbrev pub ghost-search : goal.ghost-search
ghost-search g a = record { seen = a.input.now; begun = a.cache.now }
