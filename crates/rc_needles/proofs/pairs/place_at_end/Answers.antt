use Rattle.std.proofs.Common.{arith, inl, inr, ◌≡◌, ◌-◌, length, ap, ◌∙◌, slice_index}
use Rattle.std.proofs.lemmas.Bool.{cases_lt}
use Rattle.rc_needles.proofs.PairLemmas.{no_pair_from, none_begun, zero_bits}
use Rattle.rc_needles.proofs.pairs.place_at_end.Goals as goal

pub returns-then-pairs-ne0-clause-passed : goal.returns-then-pairs-ne0-clause-passed
returns-then-pairs-ne0-clause-passed c k behind l =
    let piece = c.args.piece.now in
    let low = c.lowest.ensures.low in
    none_begun c.args.first c.args.second piece k (omega (arith, l, low, c.requires))
    (no_pair_from c.args.first c.args.second piece (length piece - 1 - 32) c.pairs_from-pairs.result c.lowest.result k
    c.pairs_from-pairs.ensures.set c.lowest.ensures.none_below (omega (arith, low)) (omega (arith, behind)) l)

pub returns-then-piece-end-clause-passed : goal.returns-then-piece-end-clause-passed
returns-then-piece-end-clause-passed c k behind l =
    let piece = c.args.piece.now in
    let bits = c.pairs_from-pairs.result in
    let zero : bits ≡ 0 = omega (arith, c.if-pairs-ne0.false) in
    none_begun c.args.first c.args.second piece k (omega (arith, l))
    (no_pair_from c.args.first c.args.second piece (length piece - 1 - 32) bits 32 k
    c.pairs_from-pairs.ensures.set (λ i _. zero_bits bits i zero) (omega arith) (omega (arith, behind)) (omega (arith, l, c.requires)))

pub returns-clause-passed : goal.returns-clause-passed
returns-clause-passed c k behind l begun =
    let piece = c.args.piece.now in
    let bits = c.pairs_from-pairs.result in
    let zero : bits ≡ 0 = omega (arith, c.if-pairs-ne0.false) in
    elim (cases_lt k (length piece - 1)) [
      | inl h ↦
          none_begun c.args.first c.args.second piece k (omega (arith, h))
          (no_pair_from c.args.first c.args.second piece (length piece - 1 - 32) bits 32 k
          c.pairs_from-pairs.ensures.set (λ i _. zero_bits bits i zero) (omega arith) (omega (arith, behind)) (omega (arith, h, c.requires))) begun
      | inr g ↦
          let end : length piece - 1 ≡ k = omega (arith, l, g) in
          let is : slice_index piece (length piece - 1) ≡ c.args.first = ap (slice_index piece) end ∙ begun.is_first in
          omega (arith, is, c.if-piece-end.false)
    ]
