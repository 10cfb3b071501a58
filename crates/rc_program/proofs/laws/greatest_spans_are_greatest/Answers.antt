use Rattle.rc_program.proofs.GreatestLemmas.{greatest_law}
use Rattle.rc_program.proofs.laws.greatest_spans_are_greatest.Goals as goal

pub returns : goal.returns
returns c = greatest_law
