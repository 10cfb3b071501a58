use Rattle.std.proofs.Common.{length, ◌-◌, ◌≡◌, ◌+◌, ◌≤◌, slice_range, take}
use Rattle.rc_text.specs.Text.{Keeps}
use Rattle.rc_needles.proofs.literal.stands_by_pieces.Given as goal

abbrev pub invariant-loop-done : goal.invariant-loop-done
invariant-loop-done g l = record {
  keeps : Keeps l.fn.input l.input;
  within : l.done ≤ length l.needle;
  same : slice_range l.fn.input.content l.at (l.at + l.done) ≡ take l.done l.needle;
}

abbrev pub decreases-loop-done : goal.decreases-loop-done
decreases-loop-done g l = length l.needle - l.done
