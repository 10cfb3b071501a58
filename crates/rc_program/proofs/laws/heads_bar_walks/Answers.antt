use Rattle.rc_program.proofs.HeadsLemmas.{heads_law}
use Rattle.rc_program.proofs.laws.heads_bar_walks.Goals as goal

pub returns : goal.returns
returns c = heads_law
