use Rattle.rc_determinize.proofs.LongestSpanLemmas.{longest_span_law}
use Rattle.rc_determinize.proofs.laws.ends_and_starts_are_longest.Goals as goal

pub returns : goal.returns
returns c = longest_span_law
