-- First walks: a way that leads nowhere is left out, a way that ends is taken, a way that goes on is followed.
use Rattle.std.proofs.Common.{◌≡◌, ◌≢◌, ◌⊎◌, List, [], ◌∷◌, inl, inr, ⊎_elim, sym, subst, ap, refl}
use Rattle.rc_walks.specs.Walks.{Pair, IsIn, IsWalk, stops, goes, IsBefore, IsFirstWalk}

module _ (ways : Pair → List Pair) (Ends : Pair → Type 0) where
  -- the same walk, from fewer or more ways that hold its first pair
  pub drop_way : (n : Pair) {passed from v : List Pair} → ((w : List Pair) → ¬ IsWalk ways Ends passed (n ∷ []) w) →
      IsWalk ways Ends passed (n ∷ from) v → IsWalk ways Ends passed from v
  drop_way n none (stops k here fresh ends) =
      ⊎_elim (λ e. absurd (none _ (stops k (inl e) fresh ends))) (λ p. stops k p fresh ends) here
  drop_way n none (goes k here fresh rest) =
      ⊎_elim (λ e. absurd (none _ (goes k (inl e) fresh rest))) (λ p. goes k p fresh rest) here

  apart : (n : Pair) {passed from v : List Pair} {k : Pair} → ((u : List Pair) → ¬ IsWalk ways Ends passed (n ∷ []) u) →
      IsWalk ways Ends passed from (k ∷ v) → n ≢ k
  apart n none (stops k here fresh ends) e = none _ (stops k (inl e) fresh ends)
  apart n none (goes k here fresh rest) e = none _ (goes k (inl e) fresh rest)

  later_in : (n : Pair) (from v w : List Pair) {k m : Pair} → n ≢ m → IsBefore ways from (k ∷ v) (m ∷ w) → IsBefore ways (n ∷ from) (k ∷ v) (m ∷ w)
  later_in n from v w ne (inl e) = inl (ne, inr e)
  later_in n from v w ne (inr r) = inr r

  before_after : (n : Pair) {passed from w v : List Pair} → ((u : List Pair) → ¬ IsWalk ways Ends passed (n ∷ []) u) →
      IsWalk ways Ends passed from w → IsWalk ways Ends passed from v → IsBefore ways from w v →
      IsBefore ways (n ∷ from) w v
  before_after n none (stops a h1 f1 s1) (stops b h2 f2 s2) r = later_in n _ [] [] (apart n none (stops b h2 f2 s2)) r
  before_after n none (stops a h1 f1 s1) (goes {w = y} b h2 f2 s2) r = later_in n _ [] y (apart n none (goes b h2 f2 s2)) r
  before_after n none (goes {w = x} a h1 f1 s1) (stops b h2 f2 s2) r = later_in n _ x [] (apart n none (stops b h2 f2 s2)) r
  before_after n none (goes {w = x} a h1 f1 s1) (goes {w = y} b h2 f2 s2) r = later_in n _ x y (apart n none (goes b h2 f2 s2)) r

  more_ways : (n : Pair) {passed from v : List Pair} → IsWalk ways Ends passed from v → IsWalk ways Ends passed (n ∷ from) v
  more_ways n (stops k here fresh ends) = stops k (inr here) fresh ends
  more_ways n (goes k here fresh rest) = goes k (inr here) fresh rest

  -- a way that leads to no walk can be left out
  pub first_after : (n : Pair) {passed from w : List Pair} → ((u : List Pair) → ¬ IsWalk ways Ends passed (n ∷ []) u) →
      IsFirstWalk ways Ends passed from w → IsFirstWalk ways Ends passed (n ∷ from) w
  first_after n none f = record {
    is_walk = more_ways n f.is_walk;
    is_least = λ v b. let c = drop_way n none b in
        ⊎_elim (λ e. inl e) (λ r. inr (before_after n none f.is_walk c r)) (f.is_least v c);
  }

module _ (ways : Pair → List Pair) (Ends : Pair → Type 0) (decide : (n m : Pair) → (n ≡ m) ⊎ (n ≢ m))
    (last : (n m : Pair) → Ends n → ¬ IsIn m (ways n)) where
  no_way_on : {n : Pair} {passed v : List Pair} → Ends n → IsWalk ways Ends passed (ways n) v → ⊥
  no_way_on {n} ends (stops k here fresh stop) = last n k ends here
  no_way_on {n} ends (goes k here fresh rest) = last n k ends here

  -- a walk may end at the first way
  pub first_stops : (n : Pair) (passed from : List Pair) → ¬ IsIn n passed → Ends n →
      IsFirstWalk ways Ends passed (n ∷ from) (n ∷ [])
  first_stops n passed from fresh ends = record {
    is_walk = stops n (inl refl) fresh ends;
    is_least = λ v b. least b;
  }
    where
      least : {v : List Pair} → IsWalk ways Ends passed (n ∷ from) v → (v ≡ n ∷ []) ⊎ IsBefore ways (n ∷ from) (n ∷ []) v
      least (stops k here f stop) =
          ⊎_elim (λ e. inl (ap (λ x. x ∷ []) (sym e))) (λ ne. inr (inl (ne, inl refl))) (decide n k)
      least (goes k here f rest) =
          ⊎_elim (λ e. absurd (no_way_on (subst Ends e ends) rest)) (λ ne. inr (inl (ne, inl refl))) (decide n k)

  -- a walk goes on from the first way
  pub first_goes : (n : Pair) (passed from w : List Pair) → ¬ IsIn n passed → ¬ Ends n →
      IsFirstWalk ways Ends (n ∷ passed) (ways n) w → IsFirstWalk ways Ends passed (n ∷ from) (n ∷ w)
  first_goes n passed from w fresh on first = record {
    is_walk = goes n (inl refl) fresh first.is_walk;
    is_least = λ v b. least b;
  }
    where
      along : {u : List Pair} → IsWalk ways Ends (n ∷ passed) (ways n) u →
          (n ∷ u ≡ n ∷ w) ⊎ IsBefore ways (n ∷ from) (n ∷ w) (n ∷ u)
      along {u} b = ⊎_elim (λ e. inl (ap (λ x. n ∷ x) e)) (λ r. inr (inr (refl, r))) (first.is_least u b)

      least : {v : List Pair} → IsWalk ways Ends passed (n ∷ from) v → (v ≡ n ∷ w) ⊎ IsBefore ways (n ∷ from) (n ∷ w) v
      least (stops k here f stop) =
          ⊎_elim (λ e. absurd (on (subst Ends (sym e) stop))) (λ ne. inr (inl (ne, inl refl))) (decide n k)
      least (goes {w = u} k here f rest) =
          ⊎_elim
          (λ e. subst (λ x. IsWalk ways Ends (x ∷ passed) (ways x) u → (x ∷ u ≡ n ∷ w) ⊎ IsBefore ways (n ∷ from) (n ∷ w) (x ∷ u))
          e along rest)
          (λ ne. inr (inl (ne, inl refl))) (decide n k)
