use Rattle.std.proofs.Common.{true≢false}
use Rattle.rc_dense_dfa.proofs.dense.DenseHalves.run_backwards.Goals as goal

pub returns-clause-ended : goal.returns-clause-ended
returns-clause-ended g c = λ m n are asked. c.search.ensures.over.ended n ((are.behind, are.is_behind), λ never. absurd (true≢false never)) asked
