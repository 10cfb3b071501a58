use Rattle.rc_dfa.proofs.OverlapLemmas.{symbol_run_law}
use Rattle.rc_dfa.proofs.laws.runs_read_symbols.Goals as goal

pub returns : goal.returns
returns c = symbol_run_law
