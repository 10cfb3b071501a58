use Rattle.rc_parser.proofs.PlainLemmas.{reads_plain}
use Rattle.rc_parser.proofs.reader.reads_plain.Goals as goal

pub returns : goal.returns
returns c = λ text h. reads_plain text h
