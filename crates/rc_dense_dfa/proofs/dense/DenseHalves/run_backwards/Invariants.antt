use Rattle.rc_dense_dfa.proofs.dense.DenseHalves.run_backwards.Given as goal

abbrev pub ghost-search : goal.ghost-search
ghost-search g a = record { seen = a.input.now; begun = a.cache.now }
