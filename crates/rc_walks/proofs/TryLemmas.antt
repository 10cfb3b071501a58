-- The function finds the first walk, where every walk stays among so many pairs.
use Rattle.std.proofs.Common.{◌≡◌, ◌≢◌, ℕ, zero, suc, ◌+◌, ◌*◌, ◌<◌, ◌≤◌, ◌⊎◌, List, [], ◌∷◌, Option, Some, None, Bool, true, IsTrue, ◌&&◌, nat_eq, length, inl, inr, ⊎_elim, sym, subst, ap, ap₂, ◌∙◌, refl, arith, eqb-true, eq-eqb, true≢false}
use Rattle.std.specs.Option.{option_or, option_map}
use Rattle.std.proofs.lemmas.Bool.{cases_Bool, and_parts, and_from, or_left, or_right}
use Rattle.rc_walks.specs.Walks.{Pair, IsIn, IsWalk, stops, goes, IsBefore, IsFirstWalk, HasNoWalk}
use Rattle.rc_walks.specs.Tries.{is_in, by_ways, walk_by}
use Rattle.rc_walks.proofs.WalkLemmas.{first_stops, first_goes, first_after, drop_way}
use Rattle.rc_walks.proofs.StackLemmas.{no_ways, dead_if_passed, dead_if_tried}
use Rattle.rc_walks.proofs.CountLemmas.{AreApart, AreBelow, length_below}

pub is_in-true : (n : Pair) (ms : List Pair) → is_in n ms ≡ true → IsIn n ms
is_in-true n [] h = absurd (true≢false (sym h))
is_in-true n (m ∷ ms) h =
    ⊎_elim
    (λ t. let p = and_parts (nat_eq m.0 n.0) (nat_eq m.1 n.1) t in
    inl (ap₂ (λ x y. (x, y)) (eqb-true m.0 n.0 p.0) (eqb-true m.1 n.1 p.1)))
    (λ e. inr (is_in-true n ms (rw e at h)))
    (cases_Bool (nat_eq m.0 n.0 && nat_eq m.1 n.1))

pub is_in-from : (n : Pair) (ms : List Pair) → IsIn n ms → is_in n ms ≡ true
is_in-from n [] h = absurd h
is_in-from n (m ∷ ms) h =
    ⊎_elim
    (λ e. or_left _ _ (and_from _ _ (eq-eqb m.0 n.0 (ap (λ (q : Pair). q.0) e)) (eq-eqb m.1 n.1 (ap (λ (q : Pair). q.1) e))))
    (λ q. or_right _ _ (is_in-from n ms q))
    h

-- what a search by the ways `from` that gave `o` has shown
abbrev pub Finds : (Pair → List Pair) → (Pair → Type 0) → List Pair → List Pair → Option (List Pair) → Type 0
Finds ways Ends passed from None = HasNoWalk ways Ends passed from
Finds ways Ends passed from (Some w) = IsFirstWalk ways Ends passed from w

-- every walk stays among places below p and positions below w
pub record IsBounded (ways : Pair → List Pair) (ends : Pair → Bool) (p w : ℕ) : Type 0 where
  pub place_of_end : (n : Pair) → IsTrue (ends n) → n.0 < p
  pub place_of_way : (n m : Pair) → IsIn m (ways n) → n.0 < p
  pub position : (n m : Pair) → n.1 < w → IsIn m (ways n) → m.1 < w

module _ (ways : Pair → List Pair) (Ends : Pair → Type 0) (decide : (n m : Pair) → (n ≡ m) ⊎ (n ≢ m)) where
  widen : (n : Pair) {passed from v : List Pair} → IsWalk ways Ends passed (n ∷ []) v → IsWalk ways Ends passed (n ∷ from) v
  widen n (stops k here fresh ends) = stops k (⊎_elim (λ e. inl e) (λ never. absurd never) here) fresh ends
  widen n (goes k here fresh rest) = goes k (⊎_elim (λ e. inl e) (λ never. absurd never) here) fresh rest

  wider_before : (n : Pair) (from v w : List Pair) → IsBefore ways (n ∷ []) v w → IsBefore ways (n ∷ from) v w
  wider_before n from [] w h = h
  wider_before n from (a ∷ v) [] h = h
  wider_before n from (a ∷ v) (b ∷ w) h =
      ⊎_elim (λ e. inl (e.0, ⊎_elim (λ x. inl x) (λ never. absurd never) e.1)) (λ r. inr r) h

  -- a walk by another way comes later
  other_later : (n : Pair) (from : List Pair) (k : Pair) (v : List Pair) {passed w : List Pair} → n ≢ k →
      IsWalk ways Ends passed (n ∷ []) w → IsBefore ways (n ∷ from) w (k ∷ v)
  other_later n from k v ne (stops a here fresh ends) = inl (ne, ⊎_elim (λ e. inl e) (λ never. absurd never) here)
  other_later n from k v ne (goes a here fresh rest) = inl (ne, ⊎_elim (λ e. inl e) (λ never. absurd never) here)

  pub first_way : (n : Pair) {passed from w : List Pair} → IsFirstWalk ways Ends passed (n ∷ []) w → IsFirstWalk ways Ends passed (n ∷ from) w
  first_way n {passed} {from} {w} f = record {
    is_walk = widen n f.is_walk;
    is_least = λ v b. least b;
  }
    where
      same : {v : List Pair} → IsWalk ways Ends passed (n ∷ []) v → (v ≡ w) ⊎ IsBefore ways (n ∷ from) w v
      same {v} b = ⊎_elim (λ e. inl e) (λ r. inr (wider_before n from w v r)) (f.is_least v b)

      least : {v : List Pair} → IsWalk ways Ends passed (n ∷ from) v → (v ≡ w) ⊎ IsBefore ways (n ∷ from) w v
      least (stops k here fresh ends) =
          ⊎_elim (λ e. same (stops k (inl e) fresh ends)) (λ ne. inr (other_later n from k [] ne f.is_walk)) (decide n k)
      least (goes {w = v} k here fresh rest) =
          ⊎_elim (λ e. same (goes k (inl e) fresh rest)) (λ ne. inr (other_later n from k v ne f.is_walk)) (decide n k)

  or_later : (n : Pair) (passed from : List Pair) (o rest : Option (List Pair)) → Finds ways Ends passed (n ∷ []) o →
      Finds ways Ends passed from rest → Finds ways Ends passed (n ∷ from) (option_or o rest)
  or_later n passed from (Some w) rest f g = first_way n f
  or_later n passed from None None f g = λ v b. g v (drop_way ways Ends n f b)
  or_later n passed from None (Some w) f g = first_after ways Ends n f g

  pub by_ways_finds : (walk : Pair → Option (List Pair)) (passed from : List Pair) →
      ((n : Pair) → IsIn n from → Finds ways Ends passed (n ∷ []) (walk n)) → Finds ways Ends passed from (by_ways walk from)
  by_ways_finds walk passed [] h = λ v b. no_ways ways Ends b
  by_ways_finds walk passed (n ∷ from) h =
      or_later n passed from (walk n) (by_ways walk from) (h n (inl refl)) (by_ways_finds walk passed from (λ m i. h m (inr i)))

module _ (ways : Pair → List Pair) (ends : Pair → Bool) (decide : (n m : Pair) → (n ≡ m) ⊎ (n ≢ m))
    (last : (n m : Pair) → IsTrue (ends n) → ¬ IsIn m (ways n)) (p w : ℕ) (bounded : IsBounded ways ends p w) where
  abbrev pub IsEnd : Pair → Type 0
  IsEnd n = IsTrue (ends n)

  -- the first pair of a walk is within the bounds
  place_below : (n : Pair) {passed v : List Pair} → IsWalk ways IsEnd passed (n ∷ []) v → n.0 < p
  place_below n (stops k here fresh stop) =
      ⊎_elim (λ e. subst (λ (x : Pair). x.0 < p) (sym e) (bounded.place_of_end k stop)) (λ never. absurd never) here
  place_below n (goes k here fresh rest) =
      ⊎_elim (λ e. subst (λ (x : Pair). x.0 < p) (sym e) (under rest)) (λ never. absurd never) here
    where
      under : {k : Pair} {q u : List Pair} → IsWalk ways IsEnd q (ways k) u → k.0 < p
      under {k} (stops m here fresh stop) = bounded.place_of_way k m here
      under {k} (goes m here fresh rest) = bounded.place_of_way k m here

  fresh_of : {n : Pair} {passed v : List Pair} → IsWalk ways IsEnd passed (n ∷ []) v → ¬ IsIn n passed
  fresh_of b = λ i. dead_if_passed ways IsEnd i b

  none_left : (passed : List Pair) (n : Pair) → p * w ≤ length passed → AreBelow p w passed → AreApart passed → n.1 < w →
      HasNoWalk ways IsEnd passed (n ∷ [])
  none_left passed n full below apart inside v b =
      let h : length (n ∷ passed) ≤ p * w = length_below p w (n ∷ passed) ((place_below n b, inside), below) (fresh_of b, apart) in
      omega (arith, h)

  onward : (n : Pair) (passed : List Pair) (o : Option (List Pair)) → ¬ IsIn n passed → ¬ IsEnd n →
      Finds ways IsEnd (n ∷ passed) (ways n) o → Finds ways IsEnd passed (n ∷ []) (option_map (λ v. n ∷ v) o)
  onward n passed None fresh on h = λ v b. dead_if_tried ways IsEnd on h b
  onward n passed (Some v) fresh on h = first_goes ways IsEnd decide last n passed [] v fresh on h

  pub walk_by_finds : (most : ℕ) (passed : List Pair) (n : Pair) → p * w ≤ most + length passed → AreBelow p w passed →
      AreApart passed → n.1 < w → Finds ways IsEnd passed (n ∷ []) (walk_by ways ends most passed n)
  walk_by_finds zero passed n enough below apart inside = none_left passed n (omega (arith, enough)) below apart inside
  walk_by_finds (suc most) passed n enough below apart inside =
      ⊎_elim
      (λ seen. rw seen (λ v b. dead_if_passed ways IsEnd (is_in-true n passed seen) b))
      (λ new.
      let fresh : ¬ IsIn n passed = λ i. true≢false (sym (is_in-from n passed i) ∙ new) in
      rw new
      (⊎_elim
      (λ stop. rw stop (first_stops ways IsEnd decide last n passed [] fresh stop))
      (λ on. rw on
      (onward n passed _ fresh (λ s. true≢false (sym s ∙ on))
      (by_ways_finds ways IsEnd decide (walk_by ways ends most (n ∷ passed)) (n ∷ passed) (ways n)
      (λ m i. walk_by_finds most (n ∷ passed) m (omega (arith, enough)) ((bounded.place_of_way n m i, inside), below) (fresh, apart)
      (bounded.position n m inside i)))))
      (cases_Bool (ends n))))
      (cases_Bool (is_in n passed))
