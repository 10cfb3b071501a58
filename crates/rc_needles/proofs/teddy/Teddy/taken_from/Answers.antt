use Rattle.std.proofs.Common.{◌+◌, arith, slice_index, bit_and}
use Rattle.std.proofs.lemmas.Nat.{and_le_l}
use Rattle.std.specs.Simd.Lanes.{zip2}
use Rattle.rc_needles.specs.Teddies.{buckets, sifted}
use Rattle.rc_needles.proofs.TeddyLemmas.{lanes_and, lanes_marked}
use Rattle.rc_needles.proofs.teddy.Teddy.taken_from.Goals as goal

pub returns-clause-long : goal.returns-clause-long
returns-clause-long c =
    let all = lanes_and _ _ _ _ c.lanes-first.ensures (lanes_and _ _ _ _ c.lanes-second.ensures c.lanes-third.ensures) in
    all.long

pub returns-clause-set : goal.returns-clause-set
returns-clause-set c =
    let all = lanes_and _ _ _ _ c.lanes-first.ensures (lanes_and _ _ _ _ c.lanes-second.ensures c.lanes-third.ensures) in
    let s = c.args.self.now in
    let piece = c.args.piece.now in
    let at = c.args.at in
    lanes_marked s piece (zip2 bit_and c.lanes-first.result (zip2 bit_and c.lanes-second.result c.lanes-third.result))
    (λ j. sifted s (slice_index piece (at + j)) (slice_index piece (at + 1 + j)) (slice_index piece (at + 2 + j))) at all (λ k some. some)

pub returns-then-self-clause-set : goal.returns-then-self-clause-set
returns-then-self-clause-set c =
    let s = c.args.self.now in
    let piece = c.args.piece.now in
    let at = c.args.at in
    lanes_marked s piece c.lanes-first.result (λ j. buckets s.first (slice_index piece (at + j))) at c.lanes-first.ensures
    (λ k some.
    let one = buckets s.first (slice_index piece (at + k)) in
    let le = and_le_l one (bit_and (buckets s.second (slice_index piece (at + 1 + k))) (buckets s.third (slice_index piece (at + 2 + k)))) in
    omega (arith, le, some))
