use Rattle.std.proofs.Common.{arith, inl, inr, w64}
use Rattle.std.specs.Int.{trailing_zeros}
use Rattle.std.proofs.lemmas.Bool.{cases_lt}
use Rattle.std.proofs.lemmas.Nat.Bits.{bit_at-trailing_zeros, bit_at_above}
use Rattle.rc_needles.proofs.lanes.lowest.Goals as goal

pub returns-clause-low : goal.returns-clause-low
returns-clause-low c =
    let h = bit_at-trailing_zeros w64 c.args.bits c.requires.some c.ranges.bits.fits in
    elim (cases_lt (trailing_zeros w64 c.args.bits) 32) [
      | inl l ↦ l
      | inr g ↦ let zero = bit_at_above c.args.bits 32 (trailing_zeros w64 c.args.bits) c.requires.small g in omega (arith, h.1, zero)
    ]

pub returns-clause-within : goal.returns-clause-within
returns-clause-within c n few =
    let h = bit_at-trailing_zeros w64 c.args.bits c.requires.some c.ranges.bits.fits in
    elim (cases_lt (trailing_zeros w64 c.args.bits) n) [
      | inl l ↦ omega (arith, l)
      | inr g ↦ let zero = bit_at_above c.args.bits n (trailing_zeros w64 c.args.bits) few g in absurd (omega (arith, h.1, zero))
    ]

pub returns-clause-none_below : goal.returns-clause-none_below
returns-clause-none_below c = (bit_at-trailing_zeros w64 c.args.bits c.requires.some c.ranges.bits.fits).2
