use Rattle.std.proofs.Common.{◌+◌, ◌-◌, ℕ, arith, length}
use Rattle.rc_needles.proofs.PairLemmas.{zero_bits}
use Rattle.rc_needles.proofs.TeddyLemmas.{NoneSifted, half_marked, none_in_half, no_sifted_from, no_sifted_there}
use Rattle.rc_needles.proofs.teddy.Teddy.place_at_end.Goals as goal
use Rattle.rc_needles.proofs.teddy.Teddy.place_at_end.Goals.{then-from-last+else-marks-ne0, else-from-last}

pub returns-then-marks-ne0-clause-within : goal.returns-then-marks-ne0-clause-within
returns-then-marks-ne0-clause-within c =
    let low = c.lowest.ensures.within 16 c.marks_of-marks.ensures.small in
    omega (arith, low, c.if-from-last.true)

pub returns-then-marks-ne0-clause-passed : goal.returns-then-marks-ne0-clause-passed
returns-then-marks-ne0-clause-passed c needle is k low high =
    no_sifted_from c.args.self.now c.args.piece.now needle 0 16 c.args.from c.marks_of-marks.result c.lowest.result k (λ i. (c.type_inv.piece i).fits) is
    (half_marked c.args.self.now c.args.piece.now c.taken_from.result c.args.from c.marks_of-marks.result c.marks_of-marks.ensures.set c.taken_from.ensures.set) c.lowest.ensures.none_below (c.lowest.ensures.within 16 c.marks_of-marks.ensures.small)
    (omega (arith, c.if-from-last.true)) (omega (arith, low)) (omega (arith, high))

pub returns-then-marks-ne0-2-clause-within : goal.returns-then-marks-ne0-2-clause-within
returns-then-marks-ne0-2-clause-within c =
    let low = c.lowest-then-marks-ne0-2.ensures.within 16 c.marks_of-marks-2.ensures.small in
    omega (arith, low, c.requires.long)

pub returns-then-marks-ne0-2-clause-passed : goal.returns-then-marks-ne0-2-clause-passed
returns-then-marks-ne0-2-clause-passed c =
    let piece = c.args.piece.now in
    let last : ℕ = length piece - 18 in
    let before : NoneSifted c.args.self.now piece c.args.from last =
    elim c.if-from-last.branch [
      | then-from-last+else-marks-ne0 w ↦
          none_in_half c.args.self.now piece c.args.from last w.marks_of-marks.result (λ i. (c.type_inv.piece i).fits) (half_marked c.args.self.now piece w.taken_from.result c.args.from w.marks_of-marks.result w.marks_of-marks.ensures.set w.taken_from.ensures.set)
          (omega (arith, w.if-marks-ne0.false)) (omega (arith, w.if-from-last.true)) (omega (arith, c.requires.near))
      | else-from-last w ↦ λ _ _ k low high. absurd (omega (arith, low, high, w.if-from-last.false))
    ] in
    no_sifted_there c.args.self.now piece c.args.from last (last + c.lowest-then-marks-ne0-2.result) 0 16 last c.marks_of-marks-2.result
    c.lowest-then-marks-ne0-2.result (λ i. (c.type_inv.piece i).fits) before (omega arith) (half_marked c.args.self.now piece c.taken_from-2.result last c.marks_of-marks-2.result c.marks_of-marks-2.ensures.set c.taken_from-2.ensures.set)
    c.lowest-then-marks-ne0-2.ensures.none_below (c.lowest-then-marks-ne0-2.ensures.within 16 c.marks_of-marks-2.ensures.small)
    (omega (arith, c.requires.long)) (omega arith)

pub returns-clause-passed : goal.returns-clause-passed
returns-clause-passed c =
    let piece = c.args.piece.now in
    let last : ℕ = length piece - 18 in
    let bits = c.marks_of-marks-2.result in
    let before : NoneSifted c.args.self.now piece c.args.from last =
    elim c.if-from-last.branch [
      | then-from-last+else-marks-ne0 w ↦
          none_in_half c.args.self.now piece c.args.from last w.marks_of-marks.result (λ i. (c.type_inv.piece i).fits) (half_marked c.args.self.now piece w.taken_from.result c.args.from w.marks_of-marks.result w.marks_of-marks.ensures.set w.taken_from.ensures.set)
          (omega (arith, w.if-marks-ne0.false)) (omega (arith, w.if-from-last.true)) (omega (arith, c.requires.near))
      | else-from-last w ↦ λ _ _ k low high. absurd (omega (arith, low, high, w.if-from-last.false))
    ] in
    no_sifted_there c.args.self.now piece c.args.from last (length piece - 2) 0 16 last bits 16 (λ i. (c.type_inv.piece i).fits) before (omega arith)
    (half_marked c.args.self.now piece c.taken_from-2.result last c.marks_of-marks-2.result c.marks_of-marks-2.ensures.set c.taken_from-2.ensures.set) (λ i _. zero_bits bits i (omega (arith, c.if-marks-ne0-2.false))) (omega arith) (omega (arith, c.requires.long))
    (omega (arith, c.requires.long))
