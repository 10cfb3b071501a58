use Rattle.std.proofs.Common.{◌≤◌, length}
use Rattle.rc_table_search.specs.Walks.{Reaches, left_of}
use Rattle.rc_table_search.proofs.run.stay.Given as goal

abbrev pub ghost-cell_at : goal.ghost-cell_at
ghost-cell_at g a = g.walk

abbrev pub invariant-loop-here : goal.invariant-loop-here
invariant-loop-here g l = record {
  within : l.place ≤ length l.piece;
  on : left_of g.walk.backwards (length l.piece) l.place ≤ left_of g.walk.backwards (length l.piece) l.from;
  reaches : Reaches g.walk l.place l.row l.noted;
}

abbrev pub decreases-loop-here : goal.decreases-loop-here
decreases-loop-here g l = left_of g.walk.backwards (length l.piece) l.place
