use Rattle.rc_pattern.proofs.SetLemmas.{look_set_law}
use Rattle.rc_pattern.proofs.laws.look_sets_are_their_looks.Goals as goal

pub returns : goal.returns
returns c = look_set_law
