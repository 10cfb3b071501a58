use Rattle.std.proofs.Common.{◌≡◌, ◌&&◌, ◌<◌, length}
use Rattle.std.specs.Prelude.{nat_le, nat_lt}
use Rattle.rc_literals.specs.Stops.{Leaves}
use Rattle.rc_literals.proofs.stops.pass_span.Given as goal

abbrev pub invariant-loop-byte : goal.invariant-loop-byte
invariant-loop-byte l = record {
  long : length l.table ≡ 256;
  none : l.to < l.from → l.byte ≡ l.from;
  leaves : Leaves l.initial.table l.table (λ b. nat_le l.from b && nat_lt b l.byte);
}
