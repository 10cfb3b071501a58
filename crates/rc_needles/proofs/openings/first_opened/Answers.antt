use Rattle.std.proofs.Common.{◌≡◌, ◌+◌, ◌∙◌, arith, inl, inr, subst, sym}
use Rattle.std.proofs.lemmas.Bool.{cases_lt}
use Rattle.rc_needles.specs.Tables.{Agrees}
use Rattle.rc_needles.proofs.OpeningLemmas.{shut}
use Rattle.rc_needles.proofs.openings.first_opened.Goals as goal

pub loop-at-preserved : goal.loop-at-preserved
loop-at-preserved c needle opened k low l =
    let piece = c.args.piece.now in
    let at = c.loop-at.at in
    elim (cases_lt k at) [
      | inl h ↦ c.loop-at.invariant needle opened k low h
      | inr g ↦
          let here : at ≡ k = omega (arith, l, g) in
          subst (λ x. ¬ Agrees piece needle x) here
          (shut c.args.words.now piece needle at (omega (arith, c.loop-at-test.true, c.saturating_sub-last.ensures)) (c.type_inv.piece (at + 2)).fits
          (sym c.if-opens.false ∙ c.opens.ensures) (opened c.requires))
    ]

pub returns-clause-passed : goal.returns-clause-passed
returns-clause-passed c needle opened k low l = c.loop-at.invariant needle opened k low (omega (arith, l, low, c.max.ensures, c.loop-at-test.false))
