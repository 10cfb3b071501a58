use Rattle.std.proofs.Common.{◌≡◌, ◌∙◌, ◌+◌, ap, arith, length, length-append, take}
use Rattle.rc_text.specs.Joined.{chunk_at, joined}
use Rattle.rc_text.proofs.Joins.{joined-take}
use Rattle.text_chunks.proofs.Counts.{bytes}
use Rattle.text_chunks.proofs.pile.Pile.index_of.Goals as goal

pub returns : goal.returns
returns c =
    let xs = c.args.self.now in
    let i = c.loop-high.low in
    let inv = c.loop-high.invariant in
    let next : c.loop-high.high ≡ i + 1 = omega (arith, inv.order, c.loop-high-test.false) in
    let one : bytes (take (i + 1) xs) ≡ bytes (take i xs) + length (chunk_at xs i) = ap length (joined-take xs i) ∙ length-append (joined (take i xs)) (chunk_at xs i) in
    record {
      within = omega (arith, inv.order, inv.within);
      low = inv.least;
      high = omega (arith, inv.most, ap (λ k. bytes (take k xs)) next, one);
    }
