use Rattle.rc_program.proofs.KindLemmas.{kinds_law}
use Rattle.rc_program.proofs.laws.kinds_have_answers.Goals as goal

pub returns : goal.returns
returns c = kinds_law
