use Rattle.rc_text.specs.Text.{Keeps}
use Rattle.rc_table_search.specs.Ways.{IsOn, span}
use Rattle.rc_table_search.specs.Searches.{IsAt}
use Rattle.rc_table_search.proofs.search.cross.Given as goal

abbrev pub ghost-read : goal.ghost-read
ghost-read g a = g.outset

abbrev pub ghost-step : goal.ghost-step
ghost-step g a = g.outset

abbrev pub invariant-loop-at : goal.invariant-loop-at
invariant-loop-at g l = record {
  keeps : Keeps l.fn.input l.input;
  on : IsOn g.W.Way.BACKWARDS l.request.from l.at;
  within : IsOn g.W.Way.BACKWARDS l.at l.until;
  here : IsAt (g.T.Transitions.view l.table g.W.Way.BACKWARDS) g.W.Way.BACKWARDS g.outset l.request l.cache l.at l.stand;
}

abbrev pub decreases-loop-at : goal.decreases-loop-at
decreases-loop-at g l = span g.W.Way.BACKWARDS l.at l.until
