use Rattle.rc_literals.proofs.AnswerLemmas.{literal_law}
use Rattle.rc_literals.proofs.laws.literals_are_exact.Goals as goal

pub returns : goal.returns
returns c = literal_law
