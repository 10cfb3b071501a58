use Rattle.rc_dfa.proofs.TableLemmas.{table_law}
use Rattle.rc_dfa.proofs.laws.tables_serve_alphabets.Goals as goal

pub returns : goal.returns
returns c = table_law
