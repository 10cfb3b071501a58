use Rattle.std.proofs.Common.{◌<◌, ◌+◌, ◌∙◌, length, sym, subst, ap, arith}
use Rattle.rc_program.specs.Program.{is_match_place}
use Rattle.std.specs.Prelude.{None}
use Rattle.rc_utf8.specs.Places.{places_of}
use Rattle.rc_determinize.specs.Steps.{HasPlace}
use Rattle.rc_determinize.proofs.SparseLemmas.{has_at}
use Rattle.rc_determinize.proofs.MatchLemmas.{AreMatched, one_matched, not_matched, all_matched}
use Rattle.rc_determinize.proofs.forward.matches_of.Goals as goal
use Rattle.rc_determinize.proofs.forward.matches_of.Goals.{then-is_match+in_ok-push, else-is_match}

pub place_at-requires : goal.place_at-requires
place_at-requires c =
    let items = c.args.entered.now.items in
    let lt : c.loop-index.index < length items = let t = c.loop-index-test.true in let l = c.len-index-end.ensures.value in omega (arith, t, l) in
    let below = c.len-index-end.ensures.set.below c.get-place.result (subst (λ p. HasPlace p items) (sym c.get-place.ensures) (has_at items c.loop-index.index lt)) in
    let same = c.requires in
    omega (arith, below, same)

pub loop-index-preserved : goal.loop-index-preserved
loop-index-preserved c =
    let places = places_of c.args.places.now in
    let items = c.args.entered.now.items in
    let lt : c.loop-index.index < length items = let t = c.loop-index-test.true in let l = c.len-index-end.ensures.value in omega (arith, t, l) in
    let told = ap (λ p. is_match_place None p) (sym c.place_at.ensures) ∙ sym c.is_match.ensures in
    elim c.if-is_match.branch [
      | then-is_match+in_ok-push w ↦ subst (λ l. AreMatched places items l (c.loop-index.index + 1)) (sym (ap (λ v. v.items) w.ends-is))
          (one_matched places items c.loop-index.ends.items w.push.new.self.items c.loop-index.index c.get-place.result lt c.get-place.ensures
          (told ∙ w.if-is_match.true) w.in_ok-push.ensures.items c.loop-index.invariant)
      | else-is_match w ↦ subst (λ l. AreMatched places items l (c.loop-index.index + 1)) (sym (ap (λ v. v.items) w.ends-is))
          (not_matched places items c.loop-index.ends.items c.loop-index.index c.get-place.result lt c.get-place.ensures (told ∙ w.if-is_match.false)
          c.loop-index.invariant)
    ]

pub returns : goal.returns
returns c =
    all_matched (places_of c.args.places.now) c.args.entered.now.items c.loop-index.ends.items c.loop-index.index
    (let t = c.loop-index-test.false in let l = c.len-index-end.ensures.value in omega (arith, t, l)) c.loop-index.invariant
