use Rattle.rc_literals.proofs.ConfineLemmas.{need_law}
use Rattle.rc_literals.proofs.laws.needles_confine.Goals as goal

pub returns : goal.returns
returns c = need_law
