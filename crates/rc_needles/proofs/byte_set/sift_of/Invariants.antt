use Rattle.std.proofs.Common.{◌≡◌, ℕ, ◌<◌, false, slice_index_or}
use Rattle.rc_needles.specs.Teddies.{buckets}
use Rattle.rc_needles.proofs.byte_set.sift_of.Given as goal

abbrev pub invariant-loop-byte : goal.invariant-loop-byte
invariant-loop-byte l = (k : ℕ) → k < l.byte → slice_index_or l.flags k false ≡ false → 0 < buckets l.sift k
