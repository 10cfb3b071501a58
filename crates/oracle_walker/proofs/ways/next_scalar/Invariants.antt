use Rattle.std.proofs.Common.{◌≡◌, ◌+◌, length, take, slice_range}
use Rattle.rc_text.specs.Text.{Keeps}
use Rattle.oracle_walker.proofs.ways.next_scalar.Given as goal

abbrev pub invariant-loop-len : goal.invariant-loop-len
invariant-loop-len g l = record {
  keeps : Keeps l.fn.input l.input;
  long : length l.bytes ≡ 4;
  bytes : take l.len l.bytes ≡ slice_range l.fn.input.content l.position (l.position + l.len);
}
