use Rattle.rc_dfa.proofs.WithinLemmas.{machine_law}
use Rattle.rc_dfa.proofs.laws.machines_keep_places.Goals as goal

pub returns : goal.returns
returns c = machine_law
