use Rattle.std.proofs.Common.{◌+◌, ◌∙◌, ap, sym, subst, refl, arith, None}
use Rattle.std.proofs.lemmas.List.{length-map}
use Rattle.rc_program.specs.Program.{is_match_place}
use Rattle.rc_utf8.specs.Places.{place_of, places_of}
use Rattle.rc_determinize.proofs.PlaceLemmas.{placed}
use Rattle.rc_determinize.proofs.LastLemmas.{AreMatches, one_more, not_one, all_of_them}
use Rattle.rc_determinize.proofs.backward.last.Goals as goal
use Rattle.rc_determinize.proofs.backward.last.Goals.{then-is_match+in_ok-push, else-is_match}

pub loop-i-preserved : goal.loop-i-preserved
loop-i-preserved c =
    let here = ap (is_match_place None) (placed c.args.places.now c.loop-i.i c.index-places-i.result c.loop-i-test.true c.index-places-i.is) ∙ sym c.is_match.ensures in
    elim c.if-is_match.branch [
      | then-is_match+in_ok-push w ↦ subst (λ t. AreMatches None (places_of c.args.places.now) t (c.loop-i.i + 1)) (sym (ap (λ s. s.list.items) w.to-is))
          (one_more None (places_of c.args.places.now) c.loop-i.to.list.items w.push.new.self.items c.loop-i.i (here ∙ w.if-is_match.true) w.in_ok-push.ensures.items c.loop-i.invariant)
      | else-is_match w ↦ subst (λ t. AreMatches None (places_of c.args.places.now) t (c.loop-i.i + 1)) (sym (ap (λ s. s.list.items) w.to-is))
          (not_one None (places_of c.args.places.now) c.loop-i.to.list.items c.loop-i.i (here ∙ w.if-is_match.false) c.loop-i.invariant)
    ]

pub returns : goal.returns
returns c = record {
  list = all_of_them None (places_of c.args.places.now) c.loop-i.to.list.items c.loop-i.i
      (let h = c.loop-i-test.false in let l = length-map c.args.places.now place_of in omega (arith, h, l)) c.loop-i.invariant;
  rising = c.loop-i.invariant.rising;
  matched = refl;
  goes_on = refl;
  beside = refl;
}
