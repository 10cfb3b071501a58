use Rattle.rc_full_lists.proofs.OpeningLemmas.{one_opening}
use Rattle.rc_full_lists.proofs.openings.opens_in_one_way.Goals as goal

pub returns : goal.returns
returns c = one_opening
