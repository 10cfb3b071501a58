use Rattle.std.proofs.Common.{ℕ, ◌-◌, ◌<◌, ◌≤◌}
use Rattle.rc_pikevm.specs.Moves.{seen_by}
use Rattle.rc_pikevm.specs.Sights.{HasNoWalkFrom}
use Rattle.rc_pikevm.specs.Windows.{IsAround}
use Rattle.rc_pikevm.proofs.alone.seek.Given as goal

abbrev pub invariant-starts : goal.invariant-starts
invariant-starts g l = record {
  later : l.at ≤ l.here;
  within : l.here ≤ l.course.hi;
  none : (y : ℕ) → l.at ≤ y → y < l.here → HasNoWalkFrom (seen_by l.course g.text) y;
  around : IsAround g.text l.at l.window → IsAround g.text l.here l.window;
}

abbrev pub decreases-starts : goal.decreases-starts
decreases-starts g l = l.end - l.here

abbrev pub ghost-limit : goal.ghost-limit
ghost-limit g a = g.text

abbrev pub ghost-spot_at : goal.ghost-spot_at
ghost-spot_at g a = g.text

abbrev pub ghost-onward : goal.ghost-onward
ghost-onward g a = g.text

abbrev pub ghost-leads_nowhere : goal.ghost-leads_nowhere
ghost-leads_nowhere g a = g.text

abbrev pub ghost-pass_over : goal.ghost-pass_over
ghost-pass_over g a = g.text

abbrev pub ghost-is_shut : goal.ghost-is_shut
ghost-is_shut g a = g.text
