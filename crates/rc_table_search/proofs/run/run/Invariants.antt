use Rattle.std.proofs.Common.{◌≤◌, length}
use Rattle.rc_table_search.specs.Walks.{Reaches, left_of}
use Rattle.rc_table_search.proofs.run.run.Given as goal

abbrev pub ghost-stride : goal.ghost-stride
ghost-stride g a = record {
  backwards = g.W.Way.BACKWARDS;
  leaps = g.R.Rows.LEAPS;
  cells = g.R.Rows.cells a.rows.now;
  classes = a.classes.now;
  piece = a.piece.now;
  start = a.start;
  from = a.from;
  first = a.stand.row;
  before = a.stand.noted;
}

abbrev pub ghost-stay : goal.ghost-stay
ghost-stay g a = record {
  backwards = g.W.Way.BACKWARDS;
  leaps = g.R.Rows.LEAPS;
  cells = g.R.Rows.cells a.rows.now;
  classes = a.classes.now;
  piece = a.piece.now;
  start = a.start;
  from = a.from;
  first = a.stand.row;
  before = a.stand.noted;
}

abbrev pub invariant-loop-cells : goal.invariant-loop-cells
invariant-loop-cells g l = record {
  within : l.place ≤ length l.piece;
  on : left_of g.W.Way.BACKWARDS (length l.piece) l.place ≤ left_of g.W.Way.BACKWARDS (length l.piece) l.from;
  row : g.R.Rows.IsRow l.fn.rows l.classes l.row;
  reaches : Reaches (record {
    backwards = g.W.Way.BACKWARDS;
    leaps = g.R.Rows.LEAPS;
    cells = g.R.Rows.cells l.fn.rows;
    classes = l.classes;
    piece = l.piece;
    start = l.start;
    from = l.from;
    first = l.fn.stand.row;
    before = l.fn.stand.noted;
  }) l.place l.row l.noted;
}

abbrev pub decreases-loop-cells : goal.decreases-loop-cells
decreases-loop-cells g l = left_of g.W.Way.BACKWARDS (length l.piece) l.place
