use Rattle.std.specs.Prelude.{◌<◌}
use Rattle.rc_table_search.specs.Decodes.{entry_of, rest_of}
use Rattle.rc_table_search.specs.Searches.{GoesAcross}
use Rattle.rc_table_search.proofs.over.over_scalar.Given as goal

abbrev pub invariant-loop-byte : goal.invariant-loop-byte
invariant-loop-byte g l = record {
  low : l.scalar.first < l.place;
  high : l.place < l.scalar.end;
  row : (g.T.Transitions.view l.table g.W.Way.BACKWARDS).IsRow l.cache l.stand.row;
  across : GoesAcross (g.T.Transitions.view l.table g.W.Way.BACKWARDS) g.W.Way.BACKWARDS l.cache l.piece (entry_of g.W.Way.BACKWARDS l.scalar) l.place l.fn.begin l.stand;
}

abbrev pub decreases-loop-byte : goal.decreases-loop-byte
decreases-loop-byte g l = rest_of g.W.Way.BACKWARDS l.scalar l.place
