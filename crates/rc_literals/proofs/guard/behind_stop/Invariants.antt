use Rattle.std.proofs.Common.{◌≤◌}
use Rattle.rc_text.specs.Text.{Keeps}
use Rattle.rc_literals.specs.Guard.{HasNoStop}
use Rattle.rc_literals.proofs.guard.behind_stop.Given as goal

abbrev pub invariant-loop-from : goal.invariant-loop-from
invariant-loop-from g l = record {
  keeps : Keeps l.fn.input l.input;
  low : l.at ≤ l.from;
  high : l.from ≤ l.needle;
  none : HasNoStop l.stops.table l.fn.input.content l.from l.needle;
}

abbrev pub decreases-loop-from : goal.decreases-loop-from
decreases-loop-from g l = l.from
