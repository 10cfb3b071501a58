use Rattle.rc_determinize.proofs.KindLemmas.{turn_law}
use Rattle.rc_determinize.proofs.laws.steps_turn.Goals as goal

pub returns : goal.returns
returns c = turn_law
