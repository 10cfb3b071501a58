use Rattle.rc_needles.proofs.StartLemmas.{needle_law}
use Rattle.rc_needles.proofs.laws.needles_are_first.Goals as goal

pub returns : goal.returns
returns c = needle_law
