use Rattle.rc_syntax.proofs.LawLemmas.{one_law}
use Rattle.rc_syntax.proofs.laws.reads_as_one.Goals as goal

pub returns : goal.returns
returns c = one_law
