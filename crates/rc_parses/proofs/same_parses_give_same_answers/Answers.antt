use Rattle.rc_parses.proofs.SameLemmas.{sameness_law}
use Rattle.rc_parses.proofs.same_parses_give_same_answers.Goals as goal

pub returns : goal.returns
returns c = sameness_law
