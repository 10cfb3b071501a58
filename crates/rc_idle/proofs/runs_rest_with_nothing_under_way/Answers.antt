use Rattle.rc_idle.proofs.IdleLemmas.{idle_law}
use Rattle.rc_idle.proofs.runs_rest_with_nothing_under_way.Goals as goal

pub returns : goal.returns
returns c = idle_law
