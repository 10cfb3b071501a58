use Rattle.rc_dfa.proofs.OverlapLemmas.{overlap_law}
use Rattle.rc_dfa.proofs.laws.runs_overlap.Goals as goal

pub returns : goal.returns
returns c = overlap_law
