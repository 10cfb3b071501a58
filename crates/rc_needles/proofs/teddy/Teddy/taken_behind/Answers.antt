use Rattle.std.proofs.Common.{◌≡◌, ℕ, ◌+◌, ◌++◌, ◌<◌, arith, slice_index, bit_and}
use Rattle.rc_needles.specs.Teddies.{buckets}
use Rattle.rc_needles.proofs.TeddyLemmas.{lanes_and, taken_back}
use Rattle.rc_needles.proofs.teddy.Teddy.taken_behind.Goals as goal

pub returns-clause-long : goal.returns-clause-long
returns-clause-long c =
    let all = lanes_and _ _ _ _ c.two_back-first.ensures (lanes_and _ _ _ _ c.one_back-second.ensures c.lanes.ensures) in
    all.long

pub returns-clause-set : goal.returns-clause-set
returns-clause-set c k place l there some =
    let s = c.args.self.now in
    let piece = c.args.piece.now in
    let at = c.args.at in
    let firsts = c.args.before.first ++ c.args.now.first in
    let seconds = c.args.before.second ++ c.args.now.second in
    let f : ℕ → ℕ = λ i. bit_and (slice_index firsts (14 + i)) (bit_and (slice_index seconds (15 + i)) (buckets s.third (slice_index piece (at + i)))) in
    let all = lanes_and _ _ _ _ c.two_back-first.ensures (lanes_and _ _ _ _ c.one_back-second.ensures c.lanes.ensures) in
    let one = taken_back s.first piece c.args.before.first c.args.now.first at 2 k place (omega arith) c.requires.before.first c.requires.now.first l there in
    let two = taken_back s.second piece c.args.before.second c.args.now.second at 1 k (place + 1) (omega arith) c.requires.before.second c.requires.now.second l
    (omega (arith, there)) in
    let third : place + 2 ≡ at + k = there in
    let taken : 0 < f k = rw (one, two, ← third) some in
    let e = all.each k l in
    omega (arith, e, taken)
