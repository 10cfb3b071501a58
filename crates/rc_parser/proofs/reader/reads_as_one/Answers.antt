use Rattle.rc_parser.proofs.ReadLemmas.{reads_one}
use Rattle.rc_parser.proofs.reader.reads_as_one.Goals as goal

pub returns : goal.returns
returns c = λ s text a b x y. reads_one s text a b x y
