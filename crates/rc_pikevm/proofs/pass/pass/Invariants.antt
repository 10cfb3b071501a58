use Rattle.std.proofs.Common.{◌+◌, ◌-◌}
use Rattle.rc_text.specs.Text.{Keeps}
use Rattle.rc_pikevm.specs.Scratches.{IsSame}
use Rattle.rc_pikevm.specs.Underway.{HasCome}
use Rattle.rc_pikevm.specs.Windows.{IsWindow, IsBegun}
use Rattle.rc_pikevm.proofs.pass.pass.Given as goal

abbrev pub invariant-positions : goal.invariant-positions
invariant-positions g l = record {
  keeps : Keeps g.text l.input;
  window : IsWindow g.text l.window;
  begun : IsBegun g.text l.at l.window;
  come : HasCome l.rule l.course g.text l.fn.scratch.next.threads.width l.from l.at l.scratch l.best;
  same : IsSame l.fn.scratch l.scratch;
}

abbrev pub decreases-positions : goal.decreases-positions
decreases-positions g l = l.course.hi + 1 - l.at

abbrev pub ghost-spot_at : goal.ghost-spot_at
ghost-spot_at g a = g.text

abbrev pub ghost-turn_by : goal.ghost-turn_by
ghost-turn_by g a = g.text

abbrev pub ghost-try_fast_path : goal.ghost-try_fast_path
ghost-try_fast_path g a = g.text
