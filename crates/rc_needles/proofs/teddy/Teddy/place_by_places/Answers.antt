use Rattle.std.proofs.Common.{◌+◌, arith, zero-le}
use Rattle.rc_needles.proofs.PairLemmas.{zero_bits}
use Rattle.rc_needles.proofs.TeddyLemmas.{both_marked, no_sifted_there}
use Rattle.rc_needles.proofs.teddy.Teddy.place_by_places.Goals as goal

pub returns-then-marks-ne0-clause-passed : goal.returns-then-marks-ne0-clause-passed
returns-then-marks-ne0-clause-passed c needle is k l =
    let s = c.args.self.now in
    let piece = c.args.piece.now in
    let at = c.loop-at.at in
    let marks = c.marks_of_both-marks in
    let marked = both_marked s piece c.taken_from-low.result c.taken_from-high.result 0 at marks.result marks.ensures.low marks.ensures.high
    c.taken_from-low.ensures.set c.taken_from-high.ensures.set in
    no_sifted_there s piece 0 at (at + c.lowest.result) 0 32 at marks.result c.lowest.result (λ i. (c.type_inv.piece i).fits) c.loop-at.invariant.passed
    (omega arith) marked c.lowest.ensures.none_below (c.lowest.ensures.within 32 marks.ensures.small) (omega (arith, c.loop-at-test.true)) (omega arith)
    needle is k zero-le l

pub loop-at-preserved : goal.loop-at-preserved
loop-at-preserved c =
    let s = c.args.self.now in
    let piece = c.args.piece.now in
    let at = c.loop-at.at in
    let marks = c.marks_of_both-marks in
    let marked = both_marked s piece c.taken_from-low.result c.taken_from-high.result 0 at marks.result marks.ensures.low marks.ensures.high
    c.taken_from-low.ensures.set c.taken_from-high.ensures.set in
    record {
      within = omega (arith, c.loop-at-test.true);
      passed = no_sifted_there s piece 0 at (at + 32) 0 32 at marks.result 32 (λ i. (c.type_inv.piece i).fits) c.loop-at.invariant.passed (omega arith) marked
          (λ i _. zero_bits marks.result i (omega (arith, c.if-marks-ne0.false))) (omega arith) (omega (arith, c.loop-at-test.true)) (omega arith);
    }
