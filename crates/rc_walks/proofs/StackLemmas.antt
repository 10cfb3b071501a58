-- A search with an explicit stack: each frame is a pair of the walk under way and how many of its ways out were tried.
use Rattle.std.proofs.Common.{◌≡◌, ◌≢◌, ℕ, ◌⊎◌, List, [], ◌∷◌, map, drop, ⊎_elim, sym, subst}
use Rattle.rc_walks.specs.Walks.{Pair, IsIn, IsWalk, stops, goes, IsFirstWalk, HasNoWalk}
use Rattle.rc_walks.proofs.WalkLemmas.{drop_way, first_after, first_stops, first_goes}

-- What holds of the walks by the ways `cur` holds of those by the ways `all`.
pub record Stands (ways : Pair → List Pair) (Ends : Pair → Type 0) (passed cur all : List Pair) : Type 0 where
  pub first : (w : List Pair) → IsFirstWalk ways Ends passed cur w → IsFirstWalk ways Ends passed all w
  pub none : HasNoWalk ways Ends passed cur → HasNoWalk ways Ends passed all

module _ (ways : Pair → List Pair) (Ends : Pair → Type 0) where
  pub same_ways : (passed cur : List Pair) → Stands ways Ends passed cur cur
  same_ways passed cur = record { first = λ w f. f; none = λ h. h }

  pub first_way_dead : (n : Pair) (passed from : List Pair) → HasNoWalk ways Ends passed (n ∷ []) →
      Stands ways Ends passed from (n ∷ from)
  first_way_dead n passed from dead = record {
    first = λ w f. first_after ways Ends n dead f;
    none = λ h v b. h v (drop_way ways Ends n dead b);
  }

  pub then_stands : (passed a b c : List Pair) → Stands ways Ends passed a b → Stands ways Ends passed b c →
      Stands ways Ends passed a c
  then_stands passed a b c x y = record { first = λ w f. y.first w (x.first w f); none = λ h. y.none (x.none h) }

  pub dead_if_passed : {n : Pair} {passed v : List Pair} → IsIn n passed → IsWalk ways Ends passed (n ∷ []) v → ⊥
  dead_if_passed {n} {passed} seen (stops k here fresh ends) =
      ⊎_elim (λ e. fresh (subst (λ x. IsIn x passed) e seen)) (λ never. absurd never) here
  dead_if_passed {n} {passed} seen (goes k here fresh rest) =
      ⊎_elim (λ e. fresh (subst (λ x. IsIn x passed) e seen)) (λ never. absurd never) here

  pub dead_if_tried : {n : Pair} {passed v : List Pair} → ¬ Ends n → HasNoWalk ways Ends (n ∷ passed) (ways n) →
      IsWalk ways Ends passed (n ∷ []) v → ⊥
  dead_if_tried {n} {passed} on none (stops k here fresh ends) =
      ⊎_elim (λ e. on (subst Ends (sym e) ends)) (λ never. absurd never) here
  dead_if_tried {n} {passed} on none (goes {w = w} k here fresh rest) =
      ⊎_elim (λ e. none w (subst (λ x. IsWalk ways Ends (x ∷ passed) (ways x) w) (sym e) rest)) (λ never. absurd never) here

  pub no_ways : {passed v : List Pair} → IsWalk ways Ends passed [] v → ⊥
  no_ways (stops k here fresh ends) = absurd here
  no_ways (goes k here fresh rest) = absurd here

module _ (ways : Pair → List Pair) (Ends : Pair → Type 0) (root : Pair) (F : Type 0) (pair : F → Pair) (tried : F → ℕ) where
  abbrev pub untried : List F → List Pair
  untried [] = []
  untried (f ∷ fs) = drop (tried f) (ways (pair f))

  -- The frames, the uppermost first, hold a walk under way, and the walks that are not ruled out yet go on from
  -- the uppermost by the ways `cur`, or from a lower one by its untried ways.
  abbrev pub Awaits : List F → List Pair → Type 0
  Awaits [] cur = Stands ways Ends [] cur (root ∷ [])
  Awaits (f ∷ fs) cur = (¬ Ends (pair f)) × (¬ IsIn (pair f) (map pair fs))
      × Stands ways Ends (pair f ∷ map pair fs) cur (ways (pair f)) × Awaits fs (pair f ∷ untried fs)

  pub narrows : (fs : List F) (cur less : List Pair) → Awaits fs cur → Stands ways Ends (map pair fs) less cur → Awaits fs less
  narrows [] cur less a s = then_stands ways Ends [] less cur (root ∷ []) s a
  narrows (f ∷ fs) cur less a s = (a.0, a.1, then_stands ways Ends _ less cur _ s a.2, a.3)

  -- the walk whose last part is w
  abbrev pub unwind : List F → List Pair → List Pair
  unwind [] w = w
  unwind (f ∷ fs) w = unwind fs (pair f ∷ w)

  module _ (decide : (n m : Pair) → (n ≡ m) ⊎ (n ≢ m)) (last : (n m : Pair) → Ends n → ¬ IsIn m (ways n)) where
    pub lifts : (fs : List F) (cur w : List Pair) → Awaits fs cur → IsFirstWalk ways Ends (map pair fs) cur w →
        IsFirstWalk ways Ends [] (root ∷ []) (unwind fs w)
    lifts [] cur w a f = a.first w f
    lifts (g ∷ fs) cur w a f =
        lifts fs (pair g ∷ untried fs) (pair g ∷ w) a.3
        (first_goes ways Ends decide last (pair g) (map pair fs) (untried fs) w a.1 a.0 (a.2.first w f))

  -- the uppermost frame has no way left
  pub goes_back : (f : F) (fs : List F) → untried (f ∷ fs) ≡ [] → Awaits (f ∷ fs) (untried (f ∷ fs)) → Awaits fs (untried fs)
  goes_back f fs e a =
      let none = subst (λ x. Stands ways Ends (pair f ∷ map pair fs) x (ways (pair f))) e a.2 in
      narrows fs (pair f ∷ untried fs) (untried fs) a.3
      (first_way_dead ways Ends (pair f) (map pair fs) (untried fs)
      (λ u. dead_if_tried ways Ends a.0 (none.none (λ v. no_ways ways Ends))))

  -- the next way leads to a pair that stands on the walk
  pub skips_way : (f : F) (fs : List F) (n : Pair) (rest : List Pair) → Awaits (f ∷ fs) (n ∷ rest) →
      IsIn n (pair f ∷ map pair fs) → Awaits (f ∷ fs) rest
  skips_way f fs n rest a seen =
      narrows (f ∷ fs) (n ∷ rest) rest a
      (first_way_dead ways Ends n (pair f ∷ map pair fs) rest (λ u. dead_if_passed ways Ends seen))

  -- the next way leads to a new pair, where no walk ends
  pub goes_on : (f g : F) (fs : List F) → Awaits (f ∷ fs) (pair g ∷ untried (f ∷ fs)) → ¬ Ends (pair g) →
      ¬ IsIn (pair g) (pair f ∷ map pair fs) → untried (g ∷ f ∷ fs) ≡ ways (pair g) →
      Awaits (g ∷ f ∷ fs) (untried (g ∷ f ∷ fs))
  goes_on f g fs a on fresh e =
      (on, fresh, subst (λ x. Stands ways Ends (pair g ∷ pair f ∷ map pair fs) x (ways (pair g))) (sym e) (same_ways ways Ends _ _), a)

  -- the next way leads to the end of a walk
  pub arrives_at : (decide : (n m : Pair) → (n ≡ m) ⊎ (n ≢ m)) → (last : (n m : Pair) → Ends n → ¬ IsIn m (ways n)) →
      (f : F) (fs : List F) (n : Pair) (rest : List Pair) → Awaits (f ∷ fs) (n ∷ rest) → Ends n →
      ¬ IsIn n (pair f ∷ map pair fs) → IsFirstWalk ways Ends [] (root ∷ []) (unwind (f ∷ fs) (n ∷ []))
  arrives_at decide last f fs n rest a ends fresh =
      lifts decide last (f ∷ fs) (n ∷ rest) (n ∷ []) a
      (first_stops ways Ends decide last n (pair f ∷ map pair fs) rest fresh ends)
