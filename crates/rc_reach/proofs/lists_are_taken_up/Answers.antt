use Rattle.rc_reach.proofs.TakeUpLemmas.{take_up_law}
use Rattle.rc_reach.proofs.lists_are_taken_up.Goals as goal

pub returns : goal.returns
returns c = take_up_law
