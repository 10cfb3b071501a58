use Rattle.rc_symbols.proofs.ReaderLemmas.{reader_law}
use Rattle.rc_symbols.proofs.readers_know_symbols.Goals as goal

pub returns : goal.returns
returns c = reader_law
