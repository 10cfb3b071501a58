use Rattle.rc_dfa_reach.proofs.TableReachLemmas.{table_reach_law}
use Rattle.rc_dfa_reach.proofs.tables_settle_their_ends.Goals as goal

pub returns : goal.returns
returns c = table_reach_law
