use Rattle.std.proofs.Common.{◌≡◌, ℕ, ◌≤◌, ◌<◌, [], ◌∷◌, ◌++◌, ◌+◌, ◌∙◌, ap, sym, subst, arith, length, suc, append_assoc, drop}
use Rattle.std.proofs.lemmas.List.{length-map, append-nil}
use Rattle.rc_program.specs.Program.{choice, place_at}
use Rattle.rc_program.specs.Laws.{targets}
use Rattle.rc_utf8.specs.Places.{place_of, places_of}
use Rattle.rc_determinize.specs.Steps.{AreBelow}
use Rattle.rc_determinize.specs.Reversed.{into_at, edges_from, all_edges}
use Rattle.rc_determinize.proofs.PlaceLemmas.{placed}
use Rattle.rc_determinize.proofs.FollowLemmas.{by_bytes, targets_below}
use Rattle.rc_determinize.proofs.ReverseLemmas.{drop_at, drop_all, all_are_reversed}
use Rattle.rc_determinize.proofs.backward.Reversed.new.Goals as goal

pub keep_place-requires : goal.keep_place-requires
keep_place-requires c =
    let here = placed c.args.places.now c.loop-i.i c.index-places-i.result c.loop-i-test.true c.index-places-i.is in
    rw c.loop-i.invariant.0
    (subst (λ n. AreBelow n (targets (place_of c.index-places-i.result))) (length-map c.args.places.now place_of)
    (subst (λ p. AreBelow (length (places_of c.args.places.now)) (targets p)) here (targets_below (places_of c.args.places.now) c.requires.closed c.loop-i.i)))

pub loop-i-preserved : goal.loop-i-preserved
loop-i-preserved c =
    let here = placed c.args.places.now c.loop-i.i c.index-places-i.result c.loop-i-test.true c.index-places-i.is in
    let lt : c.loop-i.i < length (places_of c.args.places.now) = subst (λ n. c.loop-i.i < n) (sym (length-map c.args.places.now place_of)) c.loop-i-test.true in
    let one : suc c.loop-i.i ≡ c.loop-i.i + 1 = omega arith in
    let split = drop_at (places_of c.args.places.now) c.loop-i.i (choice []) lt ∙ ap (λ k. place_at (places_of c.args.places.now) c.loop-i.i ∷ drop k (places_of c.args.places.now)) one
    ∙ ap (λ q. q ∷ drop (c.loop-i.i + 1) (places_of c.args.places.now)) here in (
      c.keep_place.ensures.len ∙ c.loop-i.invariant.0,
      λ p. ap (λ l. l ++ all_edges p (c.loop-i.i + 1) (drop (c.loop-i.i + 1) (places_of c.args.places.now))) (c.in_ok-keep_place.ensures.kept p)
          ∙ append_assoc (into_at c.loop-i.reversed p) (edges_from p c.loop-i.i (place_of c.index-places-i.result)) (all_edges p (c.loop-i.i + 1) (drop (c.loop-i.i + 1) (places_of c.args.places.now)))
          ∙ ap (λ ps. into_at c.loop-i.reversed p ++ all_edges p c.loop-i.i ps) (sym split)
          ∙ c.loop-i.invariant.1 p,
    )

pub returns : goal.returns
returns c =
    let past : length (places_of c.args.places.now) ≤ c.loop-i.i = let h = c.loop-i-test.false in let l = length-map c.args.places.now place_of in omega (arith, h, l) in
    let size : length c.loop-i.reversed.into.items ≡ length (places_of c.args.places.now) = c.loop-i.invariant.0 ∙ sym (length-map c.args.places.now place_of) in
    let all : (p : ℕ) → into_at c.loop-i.reversed p ≡ all_edges p 0 (places_of c.args.places.now) =
    λ p. sym (append-nil (into_at c.loop-i.reversed p))
    ∙ ap (λ ps. into_at c.loop-i.reversed p ++ all_edges p c.loop-i.i ps) (sym (drop_all (places_of c.args.places.now) c.loop-i.i past))
    ∙ c.loop-i.invariant.1 p in
    record { reversed = all_are_reversed (places_of c.args.places.now) c.loop-i.reversed (by_bytes c.args.places.now) size all; edges = (size, all) }
