use Rattle.rc_dense_dfa.proofs.search.DenseTransitions.next_over.Goals as goal

-- it reads bytes
pub returns-clause-cell : goal.returns-clause-cell
returns-clause-cell g c = λ never. cc never
