use Rattle.std.proofs.Common.{◌≡◌, ◌+◌, ◌<◌, ◌/◌, ◌%◌, arith, bit_and, inl, inr, subst, slice_index}
use Rattle.std.specs.Int.{bit_at}
use Rattle.std.proofs.lemmas.Bool.{cases_lt}
use Rattle.rc_needles.proofs.TeddyLemmas.{both_bits, bit_of_both}
use Rattle.rc_needles.proofs.teddy.Sift.taken_always.Goals as goal

pub loop-half-preserved : goal.loop-half-preserved
loop-half-preserved c k e h l =
    let low = slice_index c.args.self.now.low c.loop-half.half in
    let high = slice_index c.args.self.now.high c.loop-half.half in
    let parts = both_bits c.loop-half.bits (bit_and low high) k e in
    elim (cases_lt h c.loop-half.half) [
      | inl below ↦ c.loop-half.invariant k parts.0 h below
      | inr above ↦
          let same : c.loop-half.half ≡ h = omega (arith, l, above) in
          subst (λ i. (bit_at (slice_index c.args.self.now.low i) k ≡ 1) × (bit_at (slice_index c.args.self.now.high i) k ≡ 1)) same
          (both_bits low high k parts.1)
    ]

pub returns : goal.returns
returns c k e byte l =
    let low = c.loop-half.invariant k e (byte % 16) (omega (arith, c.loop-half-test.false)) in
    let high = c.loop-half.invariant k e (byte / 16) (omega (arith, l, c.loop-half-test.false)) in
    bit_of_both (slice_index c.args.self.now.low (byte % 16)) (slice_index c.args.self.now.high (byte / 16)) k low.0 high.1
