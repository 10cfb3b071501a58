use Rattle.rc_strategy.proofs.NarrowLemmas.{narrow_law}
use Rattle.rc_strategy.proofs.laws.narrowed_searches_answer_alike.Goals as goal

pub returns : goal.returns
returns c = narrow_law
