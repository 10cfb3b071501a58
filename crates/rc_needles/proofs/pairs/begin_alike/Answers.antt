use Rattle.std.proofs.Common.{arith, take}
use Rattle.std.proofs.lemmas.Slice.Eq.{bytes_eq-Decides}
use Rattle.rc_needles.proofs.PairLemmas.{alike}
use Rattle.rc_needles.proofs.pairs.begin_alike.Goals as goal

pub returns : goal.returns
returns c agrees =
    let piece = c.args.piece.now in
    let rest = c.args.rest.now in
    let len = c.min-len.result in
    rw c.eq.ensures ((bytes_eq-Decides (take len piece) (take len rest)).1
    (alike piece rest len (omega (arith, c.min-len.ensures)) (omega (arith, c.min-len.ensures)) agrees))
