use Rattle.rc_program.proofs.SideLemmas.{scalar_law}
use Rattle.rc_program.proofs.laws.scalars_are_utf8.Goals as goal

pub returns : goal.returns
returns c = scalar_law
