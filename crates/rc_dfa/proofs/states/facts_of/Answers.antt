use Rattle.rc_dfa.specs.Keys.{facts_of}
use Rattle.rc_dfa.proofs.states.facts_of.Goals as goal

pub returns : goal.returns
unfolding facts_of
returns c = cc
