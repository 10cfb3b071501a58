use Rattle.std.proofs.Common.{◌+◌, ◌/◌, ◌%◌, ◌^◌, slice_index, arith, replicate, bit_and}
use Rattle.std.specs.Simd.Lanes.{chunk, zip2}
use Rattle.rc_needles.proofs.TeddyLemmas.{lanes_and, low_halves, high_halves, halves_in, halves_looked_up, small_halves}
use Rattle.rc_needles.proofs.teddy.Sift.lanes.Goals as goal

pub swizzle-low : goal.swizzle-low
swizzle-low c =
    halves_in (zip2 bit_and (chunk c.args.at 16 c.args.piece.now) (replicate 16 15)) (λ k. slice_index c.args.piece.now (c.args.at + k) % 16)
    (low_halves c.args.piece.now c.args.at c.requires) (λ k l. omega arith)

pub swizzle-high : goal.swizzle-high
swizzle-high c =
    halves_in (zip2 (λ a b. a / 2 ^ b) (chunk c.args.at 16 c.args.piece.now) (replicate 16 4)) (λ k. slice_index c.args.piece.now (c.args.at + k) / 16)
    (high_halves c.args.piece.now c.args.at c.requires) (λ k l. small_halves c.args.piece.now c.args.at k (c.type_inv.piece (c.args.at + k)).fits)

pub returns : goal.returns
returns c =
    let piece = c.args.piece.now in
    let at = c.args.at in
    let low = low_halves piece at c.requires in
    let high = high_halves piece at c.requires in
    lanes_and _ _ _ _
    (halves_looked_up c.args.self.now.low (zip2 bit_and (chunk at 16 piece) (replicate 16 15)) (λ k. slice_index piece (at + k) % 16) low (λ k l. omega arith))
    (halves_looked_up c.args.self.now.high (zip2 (λ a b. a / 2 ^ b) (chunk at 16 piece) (replicate 16 4)) (λ k. slice_index piece (at + k) / 16) high
    (λ k l. small_halves piece at k (c.type_inv.piece (at + k)).fits))
