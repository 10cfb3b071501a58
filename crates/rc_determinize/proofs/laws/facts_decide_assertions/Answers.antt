use Rattle.rc_determinize.proofs.SidesLemmas.{holds_law}
use Rattle.rc_determinize.proofs.laws.facts_decide_assertions.Goals as goal

pub returns : goal.returns
returns c = holds_law
