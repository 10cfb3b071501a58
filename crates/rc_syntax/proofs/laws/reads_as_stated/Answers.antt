use Rattle.rc_syntax.proofs.LawLemmas.{stated_law}
use Rattle.rc_syntax.proofs.laws.reads_as_stated.Goals as goal

pub returns : goal.returns
returns c = stated_law
