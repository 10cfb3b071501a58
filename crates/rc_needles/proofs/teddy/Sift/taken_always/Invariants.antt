use Rattle.std.proofs.Common.{◌≡◌, ℕ, ◌<◌, slice_index}
use Rattle.std.specs.Int.{bit_at}
use Rattle.rc_needles.proofs.teddy.Sift.taken_always.Given as goal

abbrev pub invariant-loop-half : goal.invariant-loop-half
invariant-loop-half l = (k : ℕ) → bit_at l.bits k ≡ 1 → (h : ℕ) → h < l.half →
    (bit_at (slice_index l.self.low h) k ≡ 1) × (bit_at (slice_index l.self.high h) k ≡ 1)
