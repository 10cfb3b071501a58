use Rattle.rc_symbols.proofs.SymbolLemmas.{symbol_law}
use Rattle.rc_symbols.proofs.scalars_decide_symbols.Goals as goal

pub returns : goal.returns
returns c = symbol_law
