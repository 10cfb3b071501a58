use Rattle.rc_full_parser.proofs.OneLemmas.{one_law}
use Rattle.rc_full_parser.proofs.laws.patterns_are_one.Goals as goal

pub returns : goal.returns
returns c = one_law
