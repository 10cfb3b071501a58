use Rattle.std.proofs.Common.{arith, inl, inr, ◌≡◌, ◌-◌, length, ap, ◌∙◌, slice_index}
use Rattle.std.proofs.lemmas.Bool.{cases_lt}
use Rattle.std.proofs.lemmas.Bool.Decides.{nat_tests}
use Rattle.rc_needles.proofs.PairLemmas.{no_pair_there, none_begun, zero_bits}
use Rattle.rc_needles.proofs.pairs.are_nowhere.Goals as goal

pub loop-at-preserved : goal.loop-at-preserved
loop-at-preserved c k l =
    let at = c.loop-at.at in
    let bits = c.pairs_from.result in
    let zero : bits ≡ 0 = omega (arith, c.if-pairs_from-ne0.false) in
    no_pair_there c.args.first c.args.second c.args.piece.now at at bits 32 k c.loop-at.invariant (omega arith)
    c.pairs_from.ensures.set (λ i _. zero_bits bits i zero) (omega arith) l

pub returns-then-pairs_from-eq0 : goal.returns-then-pairs_from-eq0
returns-then-pairs_from-eq0 c other k l begun =
    let piece = c.args.piece.now in
    let bits = c.pairs_from-2.result in
    let zero : bits ≡ 0 = omega (arith, c.if-pairs_from-eq0.true) in
    elim (cases_lt k (length piece - 1)) [
      | inl h ↦
          none_begun c.args.first c.args.second piece k (omega (arith, h))
          (no_pair_there c.args.first c.args.second piece c.loop-at.at (length piece - 1 - 32) bits 32 k
          c.loop-at.invariant (omega (arith, c.loop-at-test.false)) c.pairs_from-2.ensures.set (λ i _. zero_bits bits i zero) (omega arith)
          (omega (arith, h, c.requires))) begun
      | inr g ↦
          let end : length piece - 1 ≡ k = omega (arith, l, g) in
          let is : slice_index piece (length piece - 1) ≡ c.args.first = ap (slice_index piece) end ∙ begun.is_first in
          grind (arith, nat_tests)
    ]
