use Rattle.rc_full_lists.proofs.MemberLemmas.{members_law}
use Rattle.rc_full_lists.proofs.lists.lists_have_their_items.Goals as goal

pub returns : goal.returns
returns c = members_law
