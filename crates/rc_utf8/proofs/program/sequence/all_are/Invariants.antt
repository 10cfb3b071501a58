use Rattle.std.proofs.Common.{◌≡◌, drop}
use Rattle.rc_utf8.specs.Bytes.{all_are}
use Rattle.rc_utf8.proofs.program.sequence.all_are.Given as goal

abbrev pub invariant-loop-i : goal.invariant-loop-i
invariant-loop-i l = all_are l.byte (drop l.i l.bytes) ≡ all_are l.byte l.bytes
