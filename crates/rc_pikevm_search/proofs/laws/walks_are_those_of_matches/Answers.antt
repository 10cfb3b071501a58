use Rattle.rc_pikevm_search.proofs.Walked.{walks_law}
use Rattle.rc_pikevm_search.proofs.laws.walks_are_those_of_matches.Goals as goal

pub returns : goal.returns
returns c = walks_law
