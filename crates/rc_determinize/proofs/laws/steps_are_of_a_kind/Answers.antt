use Rattle.rc_determinize.proofs.KindLemmas.{kind_law}
use Rattle.rc_determinize.proofs.laws.steps_are_of_a_kind.Goals as goal

pub returns : goal.returns
returns c = kind_law
