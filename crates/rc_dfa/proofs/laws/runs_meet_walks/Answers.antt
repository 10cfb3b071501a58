use Rattle.rc_dfa.proofs.RunLemmas.{run_law}
use Rattle.rc_dfa.proofs.laws.runs_meet_walks.Goals as goal

pub returns : goal.returns
returns c = run_law
