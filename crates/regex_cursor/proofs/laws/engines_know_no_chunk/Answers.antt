use Rattle.regex_cursor.proofs.CuttingLemmas.{engines_law}
use Rattle.regex_cursor.proofs.laws.engines_know_no_chunk.Goals as goal

pub returns : goal.returns
returns c = engines_law
