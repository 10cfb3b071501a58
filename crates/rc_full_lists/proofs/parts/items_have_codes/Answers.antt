use Rattle.rc_full_lists.proofs.CodeLemmas.{codes_law}
use Rattle.rc_full_lists.proofs.parts.items_have_codes.Goals as goal

pub returns : goal.returns
returns c = codes_law
