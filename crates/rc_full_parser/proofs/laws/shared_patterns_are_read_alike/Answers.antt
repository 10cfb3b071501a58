use Rattle.rc_full_parser.proofs.AlikeLemmas.{shared_law}
use Rattle.rc_full_parser.proofs.laws.shared_patterns_are_read_alike.Goals as goal

pub returns : goal.returns
returns c = shared_law
