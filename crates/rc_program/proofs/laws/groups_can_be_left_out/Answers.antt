use Rattle.rc_program.proofs.GroupLemmas.{group_law}
use Rattle.rc_program.proofs.laws.groups_can_be_left_out.Goals as goal

pub returns : goal.returns
returns c = group_law
