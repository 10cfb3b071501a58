use Rattle.std.proofs.Common.{◌≡◌, ◌+◌, ◌-◌, ◌≤◌, length, max, min, take, slice_range}
use Rattle.rc_text.specs.Text.{Keeps}
use Rattle.rc_text.proofs.around.read_around.Given as goal

abbrev pub invariant-loop-len : goal.invariant-loop-len
invariant-loop-len g l = record {
  keeps : Keeps l.fn.input l.input;
  bytes : take l.len l.bytes ≡ slice_range l.fn.input.content l.start (l.start + l.len);
  within : l.start + l.len ≤ max l.start (min l.end (length l.fn.input.content));
}

abbrev pub decreases-loop-len : goal.decreases-loop-len
decreases-loop-len g l = l.end - (l.start + l.len)
