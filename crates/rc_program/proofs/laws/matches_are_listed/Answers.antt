use Rattle.rc_program.proofs.MatchLemmas.{matches_law}
use Rattle.rc_program.proofs.laws.matches_are_listed.Goals as goal

pub returns : goal.returns
returns c = matches_law
