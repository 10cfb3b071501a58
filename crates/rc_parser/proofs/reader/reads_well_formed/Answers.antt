use Rattle.rc_parser.proofs.StandLemmas.{well_formed}
use Rattle.rc_parser.proofs.reader.reads_well_formed.Goals as goal

pub returns : goal.returns
returns c = λ s text re byte r. well_formed s text re byte r
