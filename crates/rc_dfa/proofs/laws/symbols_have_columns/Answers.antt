use Rattle.rc_dfa.proofs.ColumnLemmas.{column_law}
use Rattle.rc_dfa.proofs.laws.symbols_have_columns.Goals as goal

pub returns : goal.returns
returns c = column_law
