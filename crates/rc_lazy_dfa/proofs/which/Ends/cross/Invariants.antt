use Rattle.std.proofs.Common.{◌-◌, ◌≤◌}
use Rattle.rc_text.specs.Text.{Keeps}
use Rattle.rc_lazy_dfa.specs.Overlaps.{IsUnderway}
use Rattle.rc_lazy_dfa.proofs.which.Ends.cross.Given as goal

abbrev pub ghost-run : goal.ghost-run
ghost-run g a = g.o

abbrev pub ghost-step : goal.ghost-step
ghost-step g a = g.o

abbrev pub invariant-loop-at : goal.invariant-loop-at
invariant-loop-at g l = record {
  keeps : Keeps l.fn.input l.input;
  within : l.at ≤ l.end;
  underway : IsUnderway g.o l.self l.at l.row l.set;
}

abbrev pub decreases-loop-at : goal.decreases-loop-at
decreases-loop-at g l = l.end - l.at
