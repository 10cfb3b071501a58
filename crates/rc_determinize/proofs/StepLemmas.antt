-- A step over places is the search at each position whose bytes agree.
use Rattle.std.proofs.Common.{◌≡◌, ℕ, suc, ◌+◌, List, [], ◌∷◌, ◌++◌, map, Option, Some, None, Bool, IsTrue, inl, inr, ⊎_elim, sym, subst, ap, refl, arith, append_assoc}
use Rattle.std.specs.Option.{option_map}
use Rattle.std.proofs.lemmas.List.{map-append}
use Rattle.rc_walks.specs.Walks.{Pair, IsIn}
use Rattle.rc_determinize.proofs.Passes.{AreFrom, AreBelow, Passes}
use Rattle.rc_determinize.proofs.Passes as passes
use Rattle.rc_program.specs.Program.{Way, stays, pair_at}
use Rattle.rc_determinize.specs.Steps.{HasPlace, Steps, out_of_ways, hands_on, skips, arrives, stops_under, comes_back, at, still}

pub in_at : (i q : ℕ) (qs : List ℕ) → HasPlace q qs → IsIn (q, i) (at i qs)
in_at i q [] h = h
in_at i q (p ∷ ps) h = ⊎_elim (λ e. inl (ap (λ x. (x, i)) e)) (λ z. inr (in_at i q ps z)) h

pub from_at : (i q : ℕ) (qs : List ℕ) → IsIn (q, i) (at i qs) → HasPlace q qs
from_at i q [] h = h
from_at i q (p ∷ ps) h = ⊎_elim (λ e. inl (ap (λ (x : Pair). x.0) e)) (λ z. inr (from_at i q ps z)) h

module _ (ways : Pair → List Pair) (Ends : Pair → Type 0) (i : ℕ) (out : ℕ → List Way) (ends : ℕ → Bool)
    (same_ends : (q : ℕ) → Ends (q, i) ≡ IsTrue (ends q)) where
  -- where the byte may be read
  pub lift : ((q : ℕ) → ways (q, i) ≡ map (pair_at i) (out q)) → {visited onward visited2 : List ℕ} {from : List Way} {matched : Option ℕ} →
      Steps out ends visited from onward matched visited2 →
      Passes ways Ends i (at i visited) (map (pair_at i) from) (at (i + 1) onward) (option_map (λ q. (q, i)) matched) (at i visited2)
  lift same out_of_ways = passes.out_of_ways
  lift same (hands_on q p) = passes.hands_on (q, i + 1) (omega arith) (lift same p)
  lift same (skips q seen p) = passes.skips (q, i) (in_at i q _ seen) (lift same p)
  lift same (arrives q fresh e) = passes.arrives (q, i) refl (λ z. fresh (from_at i q _ z)) (subst (λ X. X) (sym (same_ends q)) e)
  lift same (stops_under {visited} {onward} {visited2} {from} {e} q fresh on sub) =
      passes.stops_under (q, i) refl (λ z. fresh (from_at i q _ z)) (λ z. on (subst (λ X. X) (same_ends q) z))
      (subst (λ x. Passes ways Ends i (at i (q ∷ visited)) x (at (i + 1) onward) (Some (e, i)) (at i visited2)) (sym (same q)) (lift same sub))
  lift same (comes_back {visited} {onward} {onward2} {visited2} {visited3} {from} {matched} q fresh on sub p) =
      subst (λ x. Passes ways Ends i (at i visited) (map (pair_at i) (stays q ∷ from)) x (option_map (λ k. (k, i)) matched) (at i visited3))
      (sym (map-append (λ k. (k, i + 1)) onward onward2))
      (passes.comes_back (q, i) refl (λ z. fresh (from_at i q _ z)) (λ z. on (subst (λ X. X) (same_ends q) z))
      (subst (λ x. Passes ways Ends i (at i (q ∷ visited)) x (at (i + 1) onward) None (at i visited2)) (sym (same q)) (lift same sub))
      (lift same p))

  -- where it is beyond the bound: the same matches, and nothing is handed on
  pub lift_still : ((q : ℕ) → ways (q, i) ≡ map (pair_at i) (still (out q))) → {visited onward visited2 : List ℕ} {from : List Way} {matched : Option ℕ} →
      Steps out ends visited from onward matched visited2 →
      Passes ways Ends i (at i visited) (map (pair_at i) (still from)) [] (option_map (λ q. (q, i)) matched) (at i visited2)
  lift_still same out_of_ways = passes.out_of_ways
  lift_still same (hands_on q p) = lift_still same p
  lift_still same (skips q seen p) = passes.skips (q, i) (in_at i q _ seen) (lift_still same p)
  lift_still same (arrives q fresh e) = passes.arrives (q, i) refl (λ z. fresh (from_at i q _ z)) (subst (λ X. X) (sym (same_ends q)) e)
  lift_still same (stops_under {visited} {onward} {visited2} {from} {e} q fresh on sub) =
      passes.stops_under (q, i) refl (λ z. fresh (from_at i q _ z)) (λ z. on (subst (λ X. X) (same_ends q) z))
      (subst (λ x. Passes ways Ends i (at i (q ∷ visited)) x [] (Some (e, i)) (at i visited2)) (sym (same q)) (lift_still same sub))
  lift_still same (comes_back {visited} {onward} {onward2} {visited2} {visited3} {from} {matched} q fresh on sub p) =
      passes.comes_back (q, i) refl (λ z. fresh (from_at i q _ z)) (λ z. on (subst (λ X. X) (same_ends q) z))
      (subst (λ x. Passes ways Ends i (at i (q ∷ visited)) x [] None (at i visited2)) (sym (same q)) (lift_still same sub))
      (lift_still same p)

module _ (ways : Pair → List Pair) (Ends : Pair → Type 0) (i : ℕ) where
  hands_all : {visited : List Pair} (later : List Pair) → AreFrom (suc i) later → Passes ways Ends i visited later later None visited
  hands_all [] far = passes.out_of_ways
  hands_all (n ∷ ns) far = passes.hands_on n (let a = far n (inl refl) in omega (arith, a)) (hands_all ns (λ k h. far k (inr h)))

  -- pairs of later positions behind the others
  pub with_later : {visited from onward visited2 : List Pair} (later : List Pair) → AreFrom (suc i) later →
      Passes ways Ends i visited from onward None visited2 →
      Passes ways Ends i visited (from ++ later) (onward ++ later) None visited2
  with_later later far passes.out_of_ways = hands_all later far
  with_later later far (passes.hands_on n l p) = passes.hands_on n l (with_later later far p)
  with_later later far (passes.skips n seen p) = passes.skips n seen (with_later later far p)
  with_later later far (passes.comes_back {visited} {from} {onward} {onward2} {visited2} {visited3} n l fresh on sub p) =
      subst (λ x. Passes ways Ends i visited (n ∷ (from ++ later)) x None visited3) (sym (append_assoc onward onward2 later))
      (passes.comes_back n l fresh on sub (with_later later far p))

  -- a match drops them
  pub without_later : {visited from onward visited2 : List Pair} {e : Pair} (later : List Pair) →
      Passes ways Ends i visited from onward (Some e) visited2 →
      Passes ways Ends i visited (from ++ later) onward (Some e) visited2
  without_later later (passes.hands_on n l p) = passes.hands_on n l (without_later later p)
  without_later later (passes.skips n seen p) = passes.skips n seen (without_later later p)
  without_later later (passes.arrives n l fresh e) = passes.arrives n l fresh e
  without_later later (passes.stops_under n l fresh on sub) = passes.stops_under n l fresh on sub
  without_later later (passes.comes_back n l fresh on sub p) = passes.comes_back n l fresh on sub (without_later later p)
