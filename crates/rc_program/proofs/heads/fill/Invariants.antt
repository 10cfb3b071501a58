use Rattle.std.proofs.Common.{◌≤◌, ◌+◌, ◌<◌, ◌≡◌, ◌&&◌, nat_le, nat_lt}
use Rattle.rc_program.specs.Closing.{AreJoined}
use Rattle.rc_program.proofs.heads.fill.Given as goal

abbrev pub invariant-loop-byte : goal.invariant-loop-byte
invariant-loop-byte l = record {
  from : l.fn.low ≤ l.byte;
  least : l.fn.high + 1 < l.fn.low → l.byte ≡ l.fn.low;
  filled : AreJoined 256 (λ b. nat_le l.fn.low b && nat_lt b l.byte) l.fn.flags l.flags;
}
