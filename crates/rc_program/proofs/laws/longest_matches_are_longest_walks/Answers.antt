use Rattle.rc_program.proofs.ReachLemmas.{longest_law}
use Rattle.rc_program.proofs.laws.longest_matches_are_longest_walks.Goals as goal

pub returns : goal.returns
returns c = longest_law
