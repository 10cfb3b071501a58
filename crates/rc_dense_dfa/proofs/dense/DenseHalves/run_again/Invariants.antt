use Rattle.rc_dense_dfa.proofs.dense.DenseHalves.run_again.Given as goal

abbrev pub ghost-search_again : goal.ghost-search_again
ghost-search_again g a = record { seen = a.input.now; begun = a.cache.now }
