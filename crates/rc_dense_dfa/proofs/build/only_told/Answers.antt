use Rattle.std.proofs.Common.{◌≡◌, ◌+◌, ◌<◌, ◌∙◌, ap, sym, subst, inl, inr, length, arith, slice_index_or}
use Rattle.std.specs.Option.{unwrap_or}
use Rattle.std.proofs.lemmas.Bool.{cases_lt}
use Rattle.std.proofs.lemmas.List.{get_or_past}
use Rattle.rc_dense_dfa.proofs.build.only_told.Goals as goal

pub loop-number-preserved : goal.loop-number-preserved
loop-number-preserved c k code lt e =
    let tells = c.args.tells.now in
    elim (cases_lt k c.loop-number.number) [
      | inl l ↦ c.loop-number.invariant k code l e
      | inr g ↦
          let same : k ≡ c.loop-number.number = omega (arith, lt, g) in
          let here : slice_index_or tells c.loop-number.number 0 ≡ code + 1 = subst (λ i. slice_index_or tells i 0 ≡ code + 1) same e in
          elim c.else-code-ne0.either [
            | inl greatest ↦ sym greatest.1 ∙ here
            | inr none ↦ absurd (omega (arith, none, here))
          ]
    ]

pub returns : goal.returns
returns c found is number k told =
    let tells = c.args.tells.now in
    elim (cases_lt number (length tells)) [
      | inl l ↦
          let e = c.loop-number.invariant number k (omega (arith, l, c.loop-number-test.false)) told in
          let same = ap (λ o. unwrap_or o 0) is in
          omega (arith, e, same)
      | inr g ↦ let none = get_or_past tells number 0 g in absurd (omega (arith, none, told))
    ]
