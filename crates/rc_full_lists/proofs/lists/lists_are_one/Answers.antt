use Rattle.rc_full_lists.proofs.ListLemmas.{one_list_law}
use Rattle.rc_full_lists.proofs.lists.lists_are_one.Goals as goal

pub returns : goal.returns
returns c = one_list_law
