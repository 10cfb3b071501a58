use Rattle.std.specs.Prelude.{◌-◌, ◌≤◌, length}
use Rattle.rc_table_search.specs.Walks.{left_of}
use Rattle.rc_table_search.specs.Searches.{ReadsOn}
use Rattle.rc_table_search.proofs.search.read_symbols.Given as goal

abbrev pub invariant-loop-cache : goal.invariant-loop-cache
invariant-loop-cache g l = record {
  within : l.place ≤ length l.piece;
  cache : (g.T.Transitions.view l.table g.W.Way.BACKWARDS).IsCache l.cache;
  on : left_of g.W.Way.BACKWARDS (length l.piece) l.place ≤ left_of g.W.Way.BACKWARDS (length l.piece) l.from;
  spends : (g.T.Transitions.view l.table g.W.Way.BACKWARDS).Spends l.fn.cache l.cache
      (left_of g.W.Way.BACKWARDS (length l.piece) l.from - left_of g.W.Way.BACKWARDS (length l.piece) l.place);
  is_row : (g.T.Transitions.view l.table g.W.Way.BACKWARDS).IsRow l.cache l.stand.row;
  here : ReadsOn (g.T.Transitions.view l.table g.W.Way.BACKWARDS) g.W.Way.BACKWARDS l.request l.piece l.start l.fn.cache l.from l.fn.begin l.cache l.place l.stand;
}

abbrev pub decreases-loop-cache : goal.decreases-loop-cache
decreases-loop-cache g l = left_of g.W.Way.BACKWARDS (length l.piece) l.place
