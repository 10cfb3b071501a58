use Rattle.rc_determinize.proofs.SpanLemmas.{greatest_span_law}
use Rattle.rc_determinize.proofs.laws.last_ends_and_least_starts_are_greatest.Goals as goal

pub returns : goal.returns
returns c = greatest_span_law
