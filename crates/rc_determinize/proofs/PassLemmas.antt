-- What the search at one position hands on decides where the first walk ends.
use Rattle.std.proofs.Common.{◌≡◌, ◌≢◌, ℕ, suc, ◌<◌, ◌≤◌, ◌⊎◌, List, [], ◌∷◌, Option, Some, None, inl, inr, ⊎_elim, subst, refl, arith}
use Rattle.std.specs.Option.{option_or}
use Rattle.rc_walks.specs.Walks.{Pair, IsIn, IsWalk, stops, goes, HasNoWalk}
use Rattle.rc_walks.proofs.WalkLemmas.{first_after, first_stops, first_goes}
use Rattle.rc_walks.proofs.CutLemmas.{EndsAt-cons, loosen}
use Rattle.rc_determinize.specs.Gives.{Gives, Carries}
use Rattle.rc_determinize.proofs.Passes.{AreFrom, AreBelow, Passes, out_of_ways, hands_on, skips, arrives, stops_under, comes_back}
use Rattle.rc_determinize.proofs.PartsLemmas.{no_walk_left, no_walk_right, first_ahead, first_parts}

abbrev pub IsWithin : List Pair → List Pair → Type 0
IsWithin xs ys = (n : Pair) → IsIn n xs → IsIn n ys

module _ (ways : Pair → List Pair) (Ends : Pair → Type 0) where
  -- Each visited pair that isn't on the walk under way is no end, and each of its ways is visited or handed on to no avail.
  pub record IsSpent (visited passed : List Pair) : Type 0 where
    pub includes : IsWithin passed visited
    pub no_end : (n : Pair) → IsIn n visited → ¬ IsIn n passed → ¬ Ends n
    pub spent : (n : Pair) → IsIn n visited → ¬ IsIn n passed → (m : Pair) → IsIn m (ways n) →
        IsIn m visited ⊎ HasNoWalk ways Ends [] (m ∷ [])

  tighten : {p f w : List Pair} → IsWalk ways Ends p f w → IsWalk ways Ends [] f w
  tighten b = loosen ways Ends b [] (λ k i. λ z. z)

  -- no walk leads on from pairs that are visited, or dead
  pub spent_is_dead : (visited passed : List Pair) → IsSpent visited passed → {beyond from v : List Pair} →
      IsWithin passed beyond → ((n : Pair) → IsIn n from → IsIn n visited ⊎ HasNoWalk ways Ends [] (n ∷ [])) →
      IsWalk ways Ends beyond from v → ⊥
  spent_is_dead visited passed s within inside (stops n here fresh ends) =
      ⊎_elim (λ i. s.no_end n i (λ p. fresh (within n p)) ends)
      (λ dead. dead _ (stops n (inl refl) (λ z. z) ends)) (inside n here)
  spent_is_dead visited passed s within inside (goes n here fresh more) =
      ⊎_elim
      (λ i. spent_is_dead visited passed s (λ k p. inr (within k p)) (s.spent n i (λ p. fresh (within n p))) more)
      (λ dead. dead _ (tighten (goes n (inl refl) fresh more))) (inside n here)

  enter : (n : Pair) {visited passed : List Pair} → IsSpent visited passed → IsSpent (n ∷ visited) (n ∷ passed)
  enter n s = record {
    includes = λ k p. ⊎_elim (λ e. inl e) (λ q. inr (s.includes k q)) p;
    no_end = λ k p new. ⊎_elim (λ e. absurd (new (inl e))) (λ q. s.no_end k q (λ r. new (inr r))) p;
    spent = λ k p new m q. ⊎_elim (λ e. absurd (new (inl e)))
        (λ i. ⊎_elim (λ v. inl (inr v)) (λ d. inr d) (s.spent k i (λ r. new (inr r)) m q)) p;
  }

  -- what the search at a position gives, where `r` is what its onward pairs give
  abbrev pub Result : List Pair → List Pair → List Pair → Option Pair → Option Pair → List Pair → Type 0
  Result visited passed from (Some e) matched visited2 = Gives ways Ends passed from (Some e)
  Result visited passed from None (Some e) visited2 = Gives ways Ends passed from (Some e)
  Result visited passed from None None visited2 =
      IsSpent visited2 passed × IsWithin visited visited2
      × ((n : Pair) → IsIn n from → IsIn n visited2 ⊎ HasNoWalk ways Ends [] (n ∷ []))

  -- a dead way before the others
  beside : (n : Pair) (visited passed from visited2 : List Pair) (r matched : Option Pair) → HasNoWalk ways Ends [] (n ∷ []) →
      Result visited passed from r matched visited2 → Result visited passed (n ∷ from) r matched visited2
  beside n visited passed from visited2 (Some e) matched dead g = (g.0, first_after ways Ends n (λ u b. dead u (tighten b)) g.1, g.2)
  beside n visited passed from visited2 None (Some e) dead g = (g.0, first_after ways Ends n (λ u b. dead u (tighten b)) g.1, g.2)
  beside n visited passed from visited2 None None dead g =
      (g.0, g.1, λ k i. ⊎_elim (λ e. inr (subst (λ x. HasNoWalk ways Ends [] (x ∷ [])) e dead)) (g.2 k) i)

  -- a visited way before the others
  skip_way : (n : Pair) (visited before passed from : List Pair) (r matched : Option Pair) (visited2 : List Pair) →
      IsSpent visited passed → IsIn n visited → IsWithin before visited →
      Result visited passed from r matched visited2 → Result before passed (n ∷ from) r matched visited2
  skip_way n visited before passed from (Some e) matched visited2 s seen grown g = (
    g.0,
    first_after ways Ends n (λ u. spent_is_dead visited passed s (λ k p. p)
        (λ k i. ⊎_elim (λ e. inl (subst (λ x. IsIn x visited) e seen)) (λ never. absurd never) i)) g.1,
    g.2,
  )
  skip_way n visited before passed from None (Some e) visited2 s seen grown g = (
    g.0,
    first_after ways Ends n (λ u. spent_is_dead visited passed s (λ k p. p)
        (λ k i. ⊎_elim (λ e. inl (subst (λ x. IsIn x visited) e seen)) (λ never. absurd never) i)) g.1,
    g.2,
  )
  skip_way n visited before passed from None None visited2 s seen grown g = (
    g.0,
    (λ k p. g.1 k (grown k p)),
    λ k i. ⊎_elim (λ e. inl (subst (λ x. IsIn x visited2) e (g.1 n seen))) (g.2 k) i,
  )

  pub no_ways : {passed v : List Pair} → IsWalk ways Ends passed [] v → ⊥
  no_ways (stops k here fresh ends) = absurd here
  no_ways (goes k here fresh more) = absurd here

  module _ (decide : (n m : Pair) → (n ≡ m) ⊎ (n ≢ m)) (last : (n m : Pair) → Ends n → ¬ IsIn m (ways n))
      (rises : (n m : Pair) → IsIn m (ways n) → n.1 ≤ m.1) where
    -- a walk stays at its first position or behind it
    pub stays_behind : (j : ℕ) {passed from w : List Pair} → AreFrom j from → IsWalk ways Ends passed from w →
        (k : Pair) → IsIn k w → j ≤ k.1
    stays_behind j far (stops n here fresh ends) k h =
        ⊎_elim (λ e. subst (λ (x : Pair). j ≤ x.1) e (far n here)) (λ never. absurd never) h
    stays_behind j far (goes n here fresh more) k h =
        ⊎_elim (λ e. subst (λ (x : Pair). j ≤ x.1) e (far n here))
        (λ q. stays_behind j (λ m i. let a = far n here in let b = rises n m i in omega (arith, a, b)) more k q) h

    -- pairs of earlier positions don't stand in the way
    pub forget : (j : ℕ) (passed from : List Pair) (r : Option Pair) → AreFrom j from → AreBelow j passed →
        Gives ways Ends [] from r → Gives ways Ends passed from r
    forget j passed from (Some e) far below g = (
      g.0,
      record {
        is_walk = loosen ways Ends g.1.is_walk passed
            (λ k i. λ z. let a = stays_behind j far g.1.is_walk k i in let b = below k z in omega (arith, a, b));
        is_least = λ v b. g.1.is_least v (tighten b);
      },
      g.2,
    )
    forget j passed from None far below g = λ v b. g v (tighten b)

    leave : (n : Pair) {visited passed : List Pair} → ¬ Ends n →
        ((m : Pair) → IsIn m (ways n) → IsIn m visited ⊎ HasNoWalk ways Ends [] (m ∷ [])) →
        IsSpent visited (n ∷ passed) → IsSpent visited passed
    leave n {visited} {passed} on inside s = record {
      includes = λ k p. s.includes k (inr p);
      no_end = λ k p new. ⊎_elim (λ e. subst (λ x. ¬ Ends x) e on)
          (λ ne. s.no_end k p (λ r. ⊎_elim ne new r)) (decide n k);
      spent = λ k p new. ⊎_elim
          (λ e. subst (λ x. (m : Pair) → IsIn m (ways x) → IsIn m visited ⊎ HasNoWalk ways Ends [] (m ∷ [])) e inside)
          (λ ne. s.spent k p (λ r. ⊎_elim ne new r)) (decide n k);
    }

    under : (n : Pair) {passed from : List Pair} (e : Pair) → ¬ IsIn n passed → ¬ Ends n →
        Gives ways Ends (n ∷ passed) (ways n) (Some e) → Gives ways Ends passed (n ∷ from) (Some e)
    under n {passed} {from} e fresh on g =
        (n ∷ g.0, first_goes ways Ends decide last n passed from g.0 fresh on g.1, EndsAt-cons ways Ends n e g.1.is_walk g.2)

    below_too : (i : ℕ) (n : Pair) (passed : List Pair) → n.1 ≡ i → AreBelow (suc i) passed → AreBelow (suc i) (n ∷ passed)
    below_too i n passed at below k h =
        ⊎_elim (λ e. subst (λ (x : Pair). x.1 < suc i) e (omega (arith, at))) (below k) h

    pub pass_gives : {i : ℕ} {visited from onward visited2 : List Pair} {matched : Option Pair} →
        Passes ways Ends i visited from onward matched visited2 → (passed : List Pair) → IsSpent visited passed →
        AreBelow (suc i) passed → (r : Option Pair) → Gives ways Ends [] onward r → Result visited passed from r matched visited2
    pass_gives out_of_ways passed s below (Some e) g = absurd (no_ways g.1.is_walk)
    pass_gives out_of_ways passed s below None g = (s, (λ k p. p), (λ k i. absurd i))
    pass_gives {i = i} (hands_on {visited = visited} {from = from} {visited2 = visited2} {matched = matched} n later p) passed s below (Some e) g =
        ⊎_elim
        (λ f. let h = forget (suc i) passed (n ∷ []) (Some e)
        (λ k z. ⊎_elim (λ q. subst (λ (x : Pair). suc i ≤ x.1) q (omega (arith, later))) (λ never. absurd never) z)
        below (g.0, f, g.2) in
        (h.0, first_ahead ways Ends decide from h.1, h.2))
        (λ q. beside n visited passed from visited2 (Some e) matched q.0 (pass_gives p passed s below (Some e) (g.0, q.1, g.2)))
        (first_parts ways Ends decide (n ∷ []) g.1)
    pass_gives (hands_on {visited = visited} {from = from} {onward = onward} {visited2 = visited2} {matched = matched} n later p) passed s below None g =
        beside n visited passed from visited2 None matched (no_walk_left ways Ends (n ∷ []) onward g) (pass_gives p passed s below None (no_walk_right ways Ends (n ∷ []) onward g))
    pass_gives (skips {visited2 = visited2} {matched = matched} n seen p) passed s below r g =
        skip_way n _ _ passed _ r matched visited2 s seen (λ k z. z) (pass_gives p passed s below r g)
    pass_gives (arrives n at fresh ends) passed s below (Some e) g = absurd (no_ways g.1.is_walk)
    pass_gives (arrives n at fresh ends) passed s below None g =
        (n ∷ [], first_stops ways Ends decide last n passed _ (λ p. fresh (s.includes n p)) ends, refl)
    pass_gives {i = i} (stops_under n at fresh on sub) passed s below (Some e) g =
        under n e (λ p. fresh (s.includes n p)) on (pass_gives sub (n ∷ passed) (enter n s) (below_too i n passed at below) (Some e) g)
    pass_gives {i = i} (stops_under {e = e} n at fresh on sub) passed s below None g =
        under n e (λ p. fresh (s.includes n p)) on (pass_gives sub (n ∷ passed) (enter n s) (below_too i n passed at below) None g)
    pass_gives {i = i} (comes_back {visited = visited} {onward = onward} {onward2 = onward2} {visited3 = visited3} {matched = matched} n at fresh on sub p)
        passed s below (Some e) g =
        ⊎_elim
        (λ f. under n e (λ z. fresh (s.includes n z)) on
        (pass_gives sub (n ∷ passed) (enter n s) (below_too i n passed at below) (Some e) (g.0, f, g.2)))
        (λ q. let h = pass_gives sub (n ∷ passed) (enter n s) (below_too i n passed at below) None q.0 in
        let left = leave n on h.2 h.0 in
        skip_way n _ visited passed _ (Some e) matched visited3 left (h.1 n (inl refl)) (λ k z. h.1 k (inr z))
        (pass_gives p passed left below (Some e) (g.0, q.1, g.2)))
        (first_parts ways Ends decide onward g.1)
    pass_gives {i = i} (comes_back {visited = visited} {onward = onward} {onward2 = onward2} {visited3 = visited3} {matched = matched} n at fresh on sub p)
        passed s below None g =
        let h = pass_gives sub (n ∷ passed) (enter n s) (below_too i n passed at below) None (no_walk_left ways Ends onward onward2 g) in
        let left = leave n on h.2 h.0 in
        skip_way n _ visited passed _ None matched visited3 left (h.1 n (inl refl)) (λ k z. h.1 k (inr z))
        (pass_gives p passed left below None (no_walk_right ways Ends onward onward2 g))

    no_pairs_spent : IsSpent [] []
    no_pairs_spent = record { includes = λ k p. p; no_end = λ k p. absurd p; spent = λ k p. absurd p }

    -- THE STEP: what the onward pairs give the pairs here give, or else the match that was met here.
    pub step_gives : {i : ℕ} {from onward visited2 : List Pair} {matched : Option Pair} →
        Passes ways Ends i [] from onward matched visited2 → (r : Option Pair) → Gives ways Ends [] onward r →
        Gives ways Ends [] from (option_or r matched)
    step_gives {matched = matched} p (Some e) g = pass_gives p [] no_pairs_spent (λ k z. absurd z) (Some e) g
    step_gives {matched = Some e} p None g = pass_gives p [] no_pairs_spent (λ k z. absurd z) None g
    step_gives {matched = None} p None g =
        let h = pass_gives p [] no_pairs_spent (λ k z. absurd z) None g in
        λ v b. spent_is_dead _ [] h.0 (λ k z. z) h.2 b

    pub sets_out : (from : List Pair) → Carries ways Ends from from None
    sets_out from (Some e) g = g
    sets_out from None g = g

    pub either_or : (r matched seen : Option Pair) → option_or (option_or r matched) seen ≡ option_or r (option_or matched seen)
    either_or (Some e) matched seen = refl
    either_or None matched seen = refl

    pub arrives_last : (origin : List Pair) (seen : Option Pair) → Carries ways Ends origin [] seen → Gives ways Ends [] origin seen
    arrives_last origin seen c = c None (λ v b. no_ways b)
