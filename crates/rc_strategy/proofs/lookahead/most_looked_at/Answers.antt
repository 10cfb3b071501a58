use Rattle.std.proofs.Common.{◌≡◌, ◌∙◌, ⊎_elim, arith, subst, sym}
use Rattle.std.proofs.lemmas.Bool.{cases_lt}
use Rattle.std.proofs.lemmas.List.{length-map}
use Rattle.rc_program.specs.Places.{place_of, places_of}
use Rattle.rc_program.proofs.ClosingLemmas.{place_read}
use Rattle.rc_strategy.proofs.LookaheadLemmas.{none_past}
use Rattle.rc_strategy.proofs.lookahead.most_looked_at.Goals as goal

pub loop-place-preserved : goal.loop-place-preserved
loop-place-preserved c =
    let ps = c.args.places.now in
    let here = place_read ps c.loop-place.place-index c.place-item.result c.loop-place-test.true c.place-item.is in (
      λ q k n lt e. ⊎_elim
          (λ before. let le = c.loop-place.invariant.0 q k n before e in omega (arith, le, c.max-most.ensures))
          (λ last. let at : c.loop-place.place-index ≡ q = omega (arith, lt, last) in
          let le = c.place_looks_ahead.ensures.most k n
          (sym here ∙ subst (λ i. Rattle.rc_program.specs.Program.place_at (places_of ps) i ≡ Rattle.rc_program.specs.Program.guard k n) (sym at) e) in omega (arith, le, c.max-most.ensures))
          (cases_lt q c.loop-place.place-index),
      λ b all.
          let before = c.loop-place.invariant.1 b all in
          let last = c.place_looks_ahead.ensures.least b (λ k n e. all c.loop-place.place-index k n (here ∙ e)) in
          omega (arith, before, last, c.max-most.ensures),
    )

pub returns-clause-most : goal.returns-clause-most
returns-clause-most c =
    none_past (places_of c.args.places.now) c.loop-place.most c.loop-place.place-index (omega (arith, c.loop-place-test.false, length-map c.args.places.now place_of))
    c.loop-place.invariant.0

pub returns-clause-least : goal.returns-clause-least
returns-clause-least c = c.loop-place.invariant.1
