use Rattle.std.proofs.Common.{◌≤◌, length}
use Rattle.rc_table_search.specs.Walks.{Reaches, left_of}
use Rattle.rc_table_search.proofs.run.stride.Given as goal

abbrev pub ghost-cell_at : goal.ghost-cell_at
ghost-cell_at g a = g.walk

abbrev pub invariant-loop-noted : goal.invariant-loop-noted
invariant-loop-noted g l = record {
  within : l.place ≤ length l.piece;
  on : left_of g.walk.backwards (length l.piece) l.place ≤ left_of g.walk.backwards (length l.piece) l.from;
  row : g.R.Rows.IsRow l.fn.rows g.walk.classes l.row;
  reaches : Reaches g.walk l.place l.row l.noted;
}

abbrev pub decreases-loop-noted : goal.decreases-loop-noted
decreases-loop-noted g l = left_of g.walk.backwards (length l.piece) l.place
