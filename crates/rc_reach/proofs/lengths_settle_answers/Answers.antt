use Rattle.rc_reach.proofs.BoundLemmas.{length_law}
use Rattle.rc_reach.proofs.lengths_settle_answers.Goals as goal

pub returns : goal.returns
returns c = length_law
