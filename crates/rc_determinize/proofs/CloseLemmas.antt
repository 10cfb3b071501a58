-- What the step of one group means for walks that may end at one position alone.
use Rattle.std.proofs.Common.{◌≡◌, ◌≢◌, ℕ, ◌+◌, ◌<◌, ◌≤◌, ◌⊎◌, List, [], ◌∷◌, ◌++◌, map, Option, Some, None, Bool, IsTrue, inl, inr, ⊎_elim, sym, subst, refl, arith, append_assoc}
use Rattle.std.specs.Option.{option_or}
use Rattle.std.proofs.lemmas.List.{map-append}
use Rattle.std.proofs.lemmas.Option.{none-some, same_Some}
use Rattle.rc_walks.specs.Walks.{Pair, IsIn, HasNoWalk}
use Rattle.rc_program.specs.Program.{Way, stays, pair_at}
use Rattle.rc_program.proofs.LongestLemmas.{none_back}
use Rattle.rc_determinize.specs.Gives.{Gives}
use Rattle.rc_determinize.specs.Run.{IsGoal}
use Rattle.rc_determinize.specs.Steps.{at, still}
use Rattle.rc_determinize.specs.Longest.{Closes, out_of_ways, hands_on, skips, arrives, comes_back}
use Rattle.rc_determinize.proofs.Passes.{Passes}
use Rattle.rc_determinize.proofs.Passes as passes
use Rattle.rc_determinize.proofs.PartsLemmas.{first_parts, first_ahead, first_behind, no_walk_left, no_walk_right, no_walk_both, dead_all}
use Rattle.rc_determinize.proofs.StepLemmas.{in_at, from_at}

pub no_members : (ns : List Pair) → ((m : Pair) → ¬ IsIn m ns) → ns ≡ []
no_members [] h = refl
no_members (n ∷ ns) h = absurd (h n (inl refl))

-- one search after another at the same position
pub one_after : (ways : Pair → List Pair) (Ends : Pair → Type 0) (i : ℕ) {visited from onward visited2 from2 onward2 visited3 : List Pair} {matched : Option Pair} →
    Passes ways Ends i visited from onward None visited2 → Passes ways Ends i visited2 from2 onward2 matched visited3 →
    Passes ways Ends i visited (from ++ from2) (onward ++ onward2) matched visited3
one_after ways Ends i passes.out_of_ways q = q
one_after ways Ends i (passes.hands_on n l p) q = passes.hands_on n l (one_after ways Ends i p q)
one_after ways Ends i (passes.skips n seen p) q = passes.skips n seen (one_after ways Ends i p q)
one_after ways Ends i {from2 = from2} {onward2 = onward3} {visited3 = visited4} {matched = matched} (passes.comes_back {visited} {from} {onward} {onward2} {visited2} {visited3} n l fresh on sub p) q =
    subst (λ x. Passes ways Ends i visited (n ∷ (from ++ from2)) x matched visited4) (sym (append_assoc onward onward2 onward3))
    (passes.comes_back n l fresh on sub (one_after ways Ends i p q))

-- what is carried is carried with other pairs behind
pub carried_behind : (ways : Pair → List Pair) (Ends : Pair → Type 0) (decide : (n m : Pair) → (n ≡ m) ⊎ (n ≢ m)) (origin from more : List Pair) →
    ((r : Option Pair) → Gives ways Ends [] from r → Gives ways Ends [] origin r) →
    (r : Option Pair) → Gives ways Ends [] (from ++ more) r → Gives ways Ends [] (origin ++ more) r
carried_behind ways Ends decide origin from more c (Some e) g =
    ⊎_elim (λ f. let h = c (Some e) (g.0, f, g.2) in (h.0, first_ahead ways Ends decide more h.1, h.2))
    (λ p. (g.0, first_behind ways Ends origin (c None p.0) p.1, g.2))
    (first_parts ways Ends decide from g.1)
carried_behind ways Ends decide origin from more c None g =
    no_walk_both ways Ends {xs = origin} (c None (no_walk_left ways Ends from more g)) (no_walk_right ways Ends from more g)

-- pairs of later positions lead to no end here
pub none_here : (ways : Pair → List Pair) (Ends : Pair → Type 0) → ((n m : Pair) → IsIn m (ways n) → n.1 ≤ m.1) → (i j : ℕ) (qs : List ℕ) → i < j →
    HasNoWalk ways (IsGoal Ends i) [] (at j qs)
none_here ways Ends rises i j qs lt =
    dead_all ways (IsGoal Ends i) (at j qs) (λ n h. none_back ways Ends rises i i [] n (omega arith) (subst (λ k. i < k) (sym (stands n qs h)) lt))
  where
    stands : (n : Pair) (qs : List ℕ) → IsIn n (at j qs) → n.1 ≡ j
    stands n [] h = absurd h
    stands n (q ∷ qs) h = ⊎_elim (λ e. subst (λ (k : Pair). k.1 ≡ j) e refl) (λ z. stands n qs z) h

module _ (ways : Pair → List Pair) (Ends : Pair → Type 0) (last : (n m : Pair) → Ends n → ¬ IsIn m (ways n)) (i : ℕ) (out : ℕ → List Way) (ends : ℕ → Bool)
    (same_ends : (q : ℕ) → Ends (q, i) ≡ IsTrue (ends q)) (same : (q : ℕ) → ways (q, i) ≡ map (pair_at i) (out q)) where
  -- Where no walk ends here, or those that do don't count, nothing is met.
  pub past : (e : ℕ) {visited onward visited2 : List ℕ} {from : List Way} {matched : Option ℕ} → (matched ≡ None) ⊎ (e ≢ i) →
      Closes out ends visited from onward matched visited2 →
      Passes ways (IsGoal Ends e) i (at i visited) (map (pair_at i) from) (at (i + 1) onward) None (at i visited2)
  past e off out_of_ways = passes.out_of_ways
  past e off (hands_on q c) = passes.hands_on (q, i + 1) (omega arith) (past e off c)
  past e off (skips q seen c) = passes.skips (q, i) (in_at i q _ seen) (past e off c)
  past e off (arrives {visited} q fresh met c) =
      let other : e ≢ i = ⊎_elim (λ h. absurd (none-some q (sym h))) (λ h. h) off in
      let no_way = no_members (ways (q, i)) (λ m. last (q, i) m (subst (λ X. X) (sym (same_ends q)) met)) in
      passes.comes_back (q, i) refl (λ z. fresh (from_at i q _ z)) (λ z. other (sym z.1))
      (subst (λ x. Passes ways (IsGoal Ends e) i (at i (q ∷ visited)) x [] None (at i (q ∷ visited))) (sym no_way) passes.out_of_ways)
      (past e (inr other) c)
  past e off (comes_back {visited} {onward} {onward2} {visited2} {visited3} {from} {matched} {stop2} q fresh on sub c) =
      subst (λ x. Passes ways (IsGoal Ends e) i (at i visited) (map (pair_at i) (stays q ∷ from)) x None (at i visited3))
      (sym (map-append (λ k. (k, i + 1)) onward onward2))
      (passes.comes_back (q, i) refl (λ z. fresh (from_at i q _ z)) (λ z. on (subst (λ X. X) (same_ends q) z.0))
      (subst (λ x. Passes ways (IsGoal Ends e) i (at i (q ∷ visited)) x (at (i + 1) onward) None (at i visited2)) (sym (same q))
      (past e (first_off matched stop2 off) sub))
      (past e (second_off matched stop2 off) c))
    where
      first_off : (a b : Option ℕ) → (option_or a b ≡ None) ⊎ (e ≢ i) → (a ≡ None) ⊎ (e ≢ i)
      first_off None b h = inl refl
      first_off (Some k) b h = h

      second_off : (a b : Option ℕ) → (option_or a b ≡ None) ⊎ (e ≢ i) → (b ≡ None) ⊎ (e ≢ i)
      second_off None b h = h
      second_off (Some k) b h = ⊎_elim (λ z. absurd (none-some k (sym z))) (λ z. inr z) h

  -- The first match that is met is the end of the first walk that ends here.
  pub met : (e : ℕ) {visited onward visited2 : List ℕ} {from : List Way} {matched : Option ℕ} → matched ≡ Some e →
      Closes out ends visited from onward matched visited2 →
      (onward2 : List ℕ) × (visited3 : List Pair) × Passes ways (IsGoal Ends i) i (at i visited) (map (pair_at i) from) (at (i + 1) onward2) (Some (e, i)) visited3
  met e is out_of_ways = absurd (none-some e is)
  met e is (hands_on q c) = let r = met e is c in (q ∷ r.0, r.1, passes.hands_on (q, i + 1) (omega arith) r.2)
  met e is (skips q seen c) = let r = met e is c in (r.0, r.1, passes.skips (q, i) (in_at i q _ seen) r.2)
  met e is (arrives {visited} {from = from} q fresh t c) = (
    [],
    at i visited,
    subst (λ k. Passes ways (IsGoal Ends i) i (at i visited) (map (pair_at i) (stays q ∷ from)) [] (Some (k, i)) (at i visited)) (same_Some q e is)
        (passes.arrives (q, i) refl (λ z. fresh (from_at i q _ z)) (subst (λ X. X) (sym (same_ends q)) t, refl)),
  )
  met e is (comes_back {visited} {onward} {onward2} {visited2} {visited3} {from} {matched = None} q fresh on sub c) =
      let r = met e is c in (
        onward ++ r.0,
        r.1,
        subst (λ x. Passes ways (IsGoal Ends i) i (at i visited) (map (pair_at i) (stays q ∷ from)) x (Some (e, i)) r.1)
            (sym (map-append (λ k. (k, i + 1)) onward r.0))
            (passes.comes_back (q, i) refl (λ z. fresh (from_at i q _ z)) (λ z. on (subst (λ X. X) (same_ends q) z.0))
            (subst (λ x. Passes ways (IsGoal Ends i) i (at i (q ∷ visited)) x (at (i + 1) onward) None (at i visited2)) (sym (same q))
            (past i (inl refl) sub))
            r.2),
      )
  met e is (comes_back {visited} {onward} {onward2} {visited2} {visited3} {from} {matched = Some k} q fresh on sub c) =
      let r = met e is sub in (
        r.0,
        r.1,
        passes.stops_under (q, i) refl (λ z. fresh (from_at i q _ z)) (λ z. on (subst (λ X. X) (same_ends q) z.0))
            (subst (λ x. Passes ways (IsGoal Ends i) i (at i (q ∷ visited)) x (at (i + 1) r.0) (Some (e, i)) r.1) (sym (same q)) r.2),
      )

-- at a bound nothing is read
pub at_bound : (out : ℕ → List Way) (ends : ℕ → Bool) {visited onward visited2 : List ℕ} {from : List Way} {matched : Option ℕ} →
    Closes out ends visited from onward matched visited2 → Closes (λ q. still (out q)) ends visited (still from) [] matched visited2
at_bound out ends out_of_ways = out_of_ways
at_bound out ends (hands_on q c) = at_bound out ends c
at_bound out ends (skips q seen c) = skips q seen (at_bound out ends c)
at_bound out ends (arrives q fresh t c) = arrives q fresh t (at_bound out ends c)
at_bound out ends (comes_back q fresh on sub c) = comes_back q fresh on (at_bound out ends sub) (at_bound out ends c)
