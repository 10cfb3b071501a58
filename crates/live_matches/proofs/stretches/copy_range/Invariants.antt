use Rattle.std.proofs.Common.{◌≡◌, ◌+◌, ◌-◌, ◌≤◌, length, slice_range}
use Rattle.rc_text.specs.Text.{Keeps}
use Rattle.live_matches.proofs.stretches.copy_range.Given as goal

-- the bytes so far are those of the content from the start on
abbrev pub invariant-pieces : goal.invariant-pieces
invariant-pieces g l = record {
  keeps : Keeps l.fn.input l.input;
  within : length l.bytes.items ≤ l.end - l.start;
  same : l.bytes.items ≡ slice_range l.fn.input.content l.start (l.start + length l.bytes.items);
}

abbrev pub decreases-pieces : goal.decreases-pieces
decreases-pieces g l = (l.end - l.start) - length l.bytes.items
