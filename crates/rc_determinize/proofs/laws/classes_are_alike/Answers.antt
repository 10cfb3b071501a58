use Rattle.rc_determinize.proofs.ClassLemmas.{class_law}
use Rattle.rc_determinize.proofs.laws.classes_are_alike.Goals as goal

pub returns : goal.returns
returns c = class_law
