use Rattle.rc_full_parser.proofs.StandLemmas.{well_formed_law}
use Rattle.rc_full_parser.proofs.laws.patterns_are_well_formed.Goals as goal

pub returns : goal.returns
returns c = well_formed_law
