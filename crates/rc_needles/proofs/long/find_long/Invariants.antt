use Rattle.std.proofs.Common.{◌-◌, ◌<◌, length}
use Rattle.rc_text.specs.Text.{Keeps}
use Rattle.rc_needles.specs.Tables.{needles_in, numbered}
use Rattle.rc_needles.proofs.LongLemmas.{IsReadTo}
use Rattle.rc_needles.proofs.long.find_long.Given as goal

abbrev pub invariant-loop-at : goal.invariant-loop-at
invariant-loop-at g l = record {
  keeps : Keeps l.fn.input l.input;
  short : l.state < length (numbered (needles_in l.searcher.table.needles.items) 0);
  read : IsReadTo (needles_in l.searcher.table.needles.items) l.fn.input.content l.end l.from l.at l.state;
}

abbrev pub decreases-loop-at : goal.decreases-loop-at
decreases-loop-at g l = l.end - l.at
