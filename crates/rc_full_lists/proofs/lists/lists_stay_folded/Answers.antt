use Rattle.rc_full_lists.proofs.MemberLemmas.{folded_law}
use Rattle.rc_full_lists.proofs.lists.lists_stay_folded.Goals as goal

pub returns : goal.returns
returns c = folded_law
