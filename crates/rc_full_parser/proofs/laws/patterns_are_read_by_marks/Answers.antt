use Rattle.rc_full_parser.proofs.MachineLemmas.{marks_law}
use Rattle.rc_full_parser.proofs.laws.patterns_are_read_by_marks.Goals as goal

pub returns : goal.returns
returns c = marks_law
