use Rattle.rc_trails.proofs.TrailLemmas.{trail_law}
use Rattle.rc_trails.proofs.trails_decide_walks.Goals as goal

pub returns : goal.returns
returns c = trail_law
