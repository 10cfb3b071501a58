use Rattle.rc_dfa_reach.proofs.RunReachLemmas.{run_reach_law}
use Rattle.rc_dfa_reach.proofs.runs_are_local.Goals as goal

pub returns : goal.returns
returns c = run_reach_law
