use Rattle.std.proofs.Common.{arith, inl, inr, refl, ◌≡◌, ◌+◌, slice_index, subst}
use Rattle.std.proofs.lemmas.Bool.{cases_lt, false≢true}
use Rattle.rc_needles.specs.Tables.{Agrees}
use Rattle.rc_needles.proofs.ScanLemmas.{begun, agrees_in_tail}
use Rattle.rc_needles.proofs.PairLemmas.{no_agreement, no_agreement_there, zero_bits}
use Rattle.rc_needles.proofs.pairs.first_place.Goals as goal

pub loop-at-preserved-then-pairs-eq0 : goal.loop-at-preserved-then-pairs-eq0
loop-at-preserved-then-pairs-eq0 c k l =
    let piece = c.args.piece.now in
    let rest = c.args.rest.now in
    let at = c.loop-at.at in
    let bits = c.pairs_from-pairs.result in
    let zero : bits ≡ 0 = omega (arith, c.if-pairs-eq0.true) in
    let end = c.past_blocks-at.ensures.within (omega (arith, c.loop-at-test.true)) in
    elim (cases_lt k (at + 32)) [
      | inl h ↦ no_agreement_there piece rest at bits 32 k c.requires.some c.loop-at.invariant c.pairs_from-pairs.ensures.set
          (λ i _. zero_bits bits i zero) (omega arith) (omega (arith, c.loop-at-test.true)) h
      | inr g ↦ no_agreement piece rest k c.requires.some (omega (arith, l, end)) (c.past_blocks-at.ensures.none k g l)
    ]

pub returns-then-begin_alike-clause-passed : goal.returns-then-begin_alike-clause-passed
returns-then-begin_alike-clause-passed c k l =
    no_agreement_there c.args.piece.now c.args.rest.now c.loop-at.at c.pairs_from-pairs.result c.lowest-at.result k c.requires.some
    c.loop-at.invariant c.pairs_from-pairs.ensures.set c.lowest-at.ensures.none_below (omega (arith, c.lowest-at.ensures.low))
    (omega (arith, c.loop-at-test.true)) l

pub loop-at-preserved : goal.loop-at-preserved
loop-at-preserved c k l agrees =
    let piece = c.args.piece.now in
    let rest = c.args.rest.now in
    let at = c.loop-at.at in
    let place = at + c.lowest-at.result in
    elim (cases_lt k place) [
      | inl h ↦ no_agreement_there piece rest at c.pairs_from-pairs.result c.lowest-at.result k c.requires.some
          c.loop-at.invariant c.pairs_from-pairs.ensures.set c.lowest-at.ensures.none_below (omega (arith, c.lowest-at.ensures.low))
          (omega (arith, c.loop-at-test.true)) h agrees
      | inr g ↦
          let here : k ≡ place = omega (arith, l, g) in
          absurd (false≢true (c.if-begin_alike.ensures (agrees_in_tail piece rest place (subst (Agrees piece rest) here agrees))))
    ]

pub returns-clause-passed : goal.returns-clause-passed
returns-clause-passed c k l agrees =
    let piece = c.args.piece.now in
    let rest = c.args.rest.now in
    elim (cases_lt k c.loop-at.at) [
      | inl h ↦ c.loop-at.invariant k h agrees
      | inr g ↦ c.place_at_end.ensures.passed k (omega (arith, g, c.loop-at-test.false, c.requires.long)) l
          (begun (slice_index rest 0) (slice_index rest 1) piece rest k c.requires.some refl refl (omega (arith, l, c.place_at_end.ensures.within)) agrees)
    ]
