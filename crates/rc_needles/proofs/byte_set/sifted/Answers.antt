use Rattle.std.proofs.Common.{◌+◌, arith}
use Rattle.rc_needles.proofs.PairLemmas.{zero_bits}
use Rattle.rc_needles.proofs.ByteSetLemmas.{none_taken}
use Rattle.rc_needles.proofs.byte_set.sifted.Goals as goal

pub returns-then-marks-ne0-clause-within : goal.returns-then-marks-ne0-clause-within
returns-then-marks-ne0-clause-within c =
    let most = c.lowest.ensures.within 16 c.marks_of-marks.ensures.small in
    omega (arith, most, c.loop-at-test.true)

pub returns-then-marks-ne0-clause-none : goal.returns-then-marks-ne0-clause-none
returns-then-marks-ne0-clause-none c =
    let marks = c.marks_of-marks in
    none_taken c.args.sift.now c.args.piece.now c.lanes.result c.loop-at.at marks.result c.lowest.result c.loop-at.invariant.none c.lanes.ensures marks.ensures.set
    c.lowest.ensures.none_below (c.lowest.ensures.within 16 marks.ensures.small)

pub loop-at-preserved : goal.loop-at-preserved
loop-at-preserved c =
    let marks = c.marks_of-marks in
    record {
      within = omega (arith, c.loop-at-test.true);
      none = none_taken c.args.sift.now c.args.piece.now c.lanes.result c.loop-at.at marks.result 16 c.loop-at.invariant.none c.lanes.ensures marks.ensures.set
          (λ i _. zero_bits marks.result i (omega (arith, c.if-marks-ne0.false))) (omega arith);
    }
