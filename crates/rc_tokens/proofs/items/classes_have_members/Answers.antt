use Rattle.rc_tokens.proofs.ClassMembers.{members_law}
use Rattle.rc_tokens.proofs.items.classes_have_members.Goals as goal

pub returns : goal.returns
returns c = members_law
