use Rattle.std.proofs.Common.{◌≡◌, true, arith, inl, inr, subst, sym}
use Rattle.std.proofs.lemmas.Bool.{cases_lt}
use Rattle.rc_needles.specs.Openings.{opens}
use Rattle.rc_needles.proofs.openings.opens_each.Goals as goal

pub loop-third-preserved : goal.loop-third-preserved
loop-third-preserved c k l =
    elim (cases_lt k c.loop-third.third) [
      | inl h ↦ c.loop-third.invariant k h
      | inr g ↦
          let same : c.loop-third.third ≡ k = omega (arith, l, g) in
          subst (λ x. opens c.args.words.now c.args.first c.args.second x ≡ true) same (sym c.if-not-opens.ensures)
    ]
