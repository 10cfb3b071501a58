use Rattle.rc_program.proofs.EntryLemmas.{entry_law}
use Rattle.rc_program.proofs.laws.patterns_have_entries.Goals as goal

pub returns : goal.returns
returns c = entry_law
