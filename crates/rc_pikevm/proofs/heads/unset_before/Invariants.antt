use Rattle.std.proofs.Common.{◌≡◌, ℕ, ◌<◌, false, slice_index, slice_index_or}
use Rattle.rc_pikevm.proofs.heads.unset_before.Given as goal

abbrev pub invariant-loop-i : goal.invariant-loop-i
invariant-loop-i l = (k : ℕ) → k < l.i → slice_index_or l.flags (slice_index l.bytes k) false ≡ false
