use Rattle.std.proofs.Common.{◌≡◌, ◌&&◌, false, length, nat_lt, slice_index_or}
use Rattle.rc_program.specs.Closing.{AreJoined}
use Rattle.rc_program.proofs.heads.join_set.Given as goal

abbrev pub invariant-loop-byte : goal.invariant-loop-byte
invariant-loop-byte l = record {
  same : length l.flags ≡ length l.fn.flags;
  joined : AreJoined 256 (λ b. nat_lt b l.byte && slice_index_or l.set b false) l.fn.flags l.flags;
}
