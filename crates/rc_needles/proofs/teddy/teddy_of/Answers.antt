use Rattle.std.proofs.Common.{◌≡◌, arith, ap, refl, subst, ◌∙◌, inl, inr}
use Rattle.std.proofs.lemmas.Bool.{cases_lt}
use Rattle.rc_needles.specs.Teddies.{IsSifted}
use Rattle.rc_needles.specs.Tables.{needles_in, numbered}
use Rattle.rc_needles.proofs.StandLemmas.{numbered_in, needle_count}
use Rattle.rc_needles.proofs.teddy.teddy_of.Goals as goal

pub loop-needle-preserved : goal.loop-needle-preserved
loop-needle-preserved c n l =
    let vs = c.args.needles.now in
    let i = c.loop-needle.needle-index in
    elim (cases_lt n i) [
      | inl h ↦ c.loop-needle.invariant n h
      | inr g ↦
          let same : i ≡ n = omega (arith, l, g) in
          let w : c.as_slice.result.now ≡ numbered (needles_in vs) i = c.as_slice.ensures.value ∙ numbered_in vs i c.needle-item.result (omega (arith, c.loop-needle-test.true)) c.needle-item.is in
          subst (IsSifted c.filled-teddy.result) (w ∙ ap (numbered (needles_in vs)) same) (c.if-not-takes.ensures refl)
    ]

pub returns : goal.returns
returns c n l = c.loop-needle.invariant n (omega (arith, l, needle_count c.args.needles.now, c.loop-needle-test.false))
