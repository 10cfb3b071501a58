use Rattle.rc_syntax.proofs.LawLemmas.{well_formed_law}
use Rattle.rc_syntax.proofs.laws.reads_well_formed.Goals as goal

pub returns : goal.returns
returns c = well_formed_law
