use Rattle.rc_literals.proofs.CoverLemmas.{cover_law}
use Rattle.rc_literals.proofs.laws.covering_needles_guard.Goals as goal

pub returns : goal.returns
returns c = cover_law
