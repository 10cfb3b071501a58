use Rattle.std.proofs.Common.{◌≡◌, length}
use Rattle.std.specs.Prelude.{nat_eq}
use Rattle.rc_literals.proofs.LeaveLemmas.{IsLeft}
use Rattle.rc_literals.proofs.stops.pass_bytes.Given as goal

abbrev pub invariant-loop-byte : goal.invariant-loop-byte
invariant-loop-byte l = record {
  long : length l.table ≡ 256;
  left : IsLeft nat_eq l.initial.table l.table l.bytes l.byte-index;
}
