use Rattle.rc_program.proofs.PropertyLemmas.{property_law}
use Rattle.rc_program.proofs.laws.properties_are_sound.Goals as goal

pub returns : goal.returns
returns c = property_law
