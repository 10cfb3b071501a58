use Rattle.rc_program.proofs.AnswerLemmas.{answer_law}
use Rattle.rc_program.proofs.laws.answers_are_first_walks.Goals as goal

pub returns : goal.returns
returns c = answer_law
