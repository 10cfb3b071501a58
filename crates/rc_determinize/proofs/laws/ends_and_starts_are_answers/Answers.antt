use Rattle.rc_determinize.proofs.LawLemmas.{span_law}
use Rattle.rc_determinize.proofs.laws.ends_and_starts_are_answers.Goals as goal

pub returns : goal.returns
returns c = span_law
