use Rattle.rc_build.proofs.RefusalLemmas as lemmas
use Rattle.rc_build.proofs.laws.refusals_are_exact.Goals as goal

pub returns : goal.returns
returns c = record { none = lemmas.none; one = lemmas.one }
