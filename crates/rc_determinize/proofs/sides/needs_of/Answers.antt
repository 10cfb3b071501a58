use Rattle.std.proofs.Common.{ap, ◌∙◌, sym, subst, arith, ◌+◌}
use Rattle.std.proofs.lemmas.List.{length-map}
use Rattle.rc_utf8.specs.Places.{place_of, places_of}
use Rattle.rc_determinize.specs.Sides.{guarded}
use Rattle.rc_determinize.proofs.PlaceLemmas.{placed}
use Rattle.rc_determinize.proofs.NeedsLemmas.{AreNeedsSoFar, asks_for, asks_nothing, all_asked}
use Rattle.rc_determinize.proofs.sides.needs_of.Goals as goal
use Rattle.rc_determinize.proofs.sides.needs_of.Goals.{in-Some, in_default}

pub loop-place-preserved : goal.loop-place-preserved
loop-place-preserved c =
    let here = ap guarded (placed c.args.places.now c.loop-place.place-index c.place-item.result c.loop-place-test.true c.place-item.is) in
    elim c.match-guarded.branch [
      | in-Some w ↦ subst (λ n. AreNeedsSoFar n (places_of c.args.places.now) (c.loop-place.place-index + 1)) (sym (w.needs-is ∙ w.asking-needs.ensures))
          (asks_for c.loop-place.needs (places_of c.args.places.now) c.loop-place.place-index w.in-Some.look (here ∙ sym c.guarded.ensures ∙ w.in-Some.is) c.loop-place.invariant)
      | in_default w ↦ subst (λ n. AreNeedsSoFar n (places_of c.args.places.now) (c.loop-place.place-index + 1)) (sym w.needs-is)
          (asks_nothing c.loop-place.needs (places_of c.args.places.now) c.loop-place.place-index (here ∙ sym c.guarded.ensures ∙ w.in_default.is) c.loop-place.invariant)
    ]

pub returns : goal.returns
returns c = all_asked c.loop-place.needs (places_of c.args.places.now) c.loop-place.place-index
    (let h = c.loop-place-test.false in let l = length-map c.args.places.now place_of in omega (arith, h, l)) c.loop-place.invariant
