use Rattle.std.proofs.Common.{◌≡◌, ◌<◌, ℕ, false, IsTrue, length, slice_index_or}
use Rattle.rc_strategy.proofs.route.others_of.Given as goal

abbrev pub invariant-loop-byte : goal.invariant-loop-byte
invariant-loop-byte l = record {
  long : length l.others ≡ 256;
  told : (b : ℕ) → IsTrue (slice_index_or l.others b false) → (b < 256) × (slice_index_or l.heads b false ≡ false);
}
