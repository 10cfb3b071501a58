use Rattle.std.specs.Prelude.{◌≤◌, length}
use Rattle.rc_table_search.specs.Walks.{left_of}
use Rattle.rc_table_search.specs.Searches.{GoesAcross}
use Rattle.rc_table_search.proofs.over.run_plain.Given as goal

abbrev pub invariant-loop-plain : goal.invariant-loop-plain
invariant-loop-plain g l = record {
  within : l.place ≤ length l.piece;
  on : left_of g.W.Way.BACKWARDS (length l.piece) l.place ≤ left_of g.W.Way.BACKWARDS (length l.piece) l.from;
  row : (g.T.Transitions.view l.table g.W.Way.BACKWARDS).IsRow l.cache l.stand.row;
  across : GoesAcross (g.T.Transitions.view l.table g.W.Way.BACKWARDS) g.W.Way.BACKWARDS l.cache l.piece l.from l.place l.fn.begin l.stand;
}

abbrev pub decreases-loop-plain : goal.decreases-loop-plain
decreases-loop-plain g l = left_of g.W.Way.BACKWARDS (length l.piece) l.place
