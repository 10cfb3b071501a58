use Rattle.rc_reach.proofs.SliceLemmas.{slice_law}
use Rattle.rc_reach.proofs.slices_settle_answers.Goals as goal

pub returns : goal.returns
returns c = slice_law
