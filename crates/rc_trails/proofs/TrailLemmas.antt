-- A graph that agrees with another one where trails lead has the same walks there.
use Rattle.std.proofs.Common.{◌≡◌, ◌≢◌, ◌⊎◌, List, [], ◌∷◌, map, IsTrue, inl, inr, ⊎_elim, sym, subst, ap, ap₂, ◌∙◌, refl}
use Rattle.std.proofs.lemmas.Bool.{cases_eq}
use Rattle.rc_walks.specs.Walks.{Pair, IsIn, IsWalk, stops, goes, IsEarlier, IsBefore, IsFirstWalk, HasNoWalk}
use Rattle.rc_walks.proofs.CutLemmas.{EndsAt-cons, from_other, not_before_both}
use Rattle.rc_trails.specs.Trails.{IsTrail, IsNoLater, AreSeenBy, AreSeen, Agree, TrailLaw}

same_pair : (n m : Pair) → (n ≡ m) ⊎ (n ≢ m)
same_pair n m =
    ⊎_elim (λ e. ⊎_elim (λ f. inl (ap₂ (λ x y. (x, y)) e f)) (λ ne. inr (λ p. ne (ap (λ (q : Pair). q.1) p))) (cases_eq n.1 m.1))
    (λ ne. inr (λ p. ne (ap (λ (q : Pair). q.0) p))) (cases_eq n.0 m.0)

rest_of : (n x : Pair) (xs : List Pair) → x ≢ n → IsIn n (x ∷ xs) → IsIn n xs
rest_of n x xs ne h = ⊎_elim (λ e. absurd (ne e)) (λ q. q) h

-- of two ways one is the earlier
pub in_order : (xs : List Pair) (n m : Pair) → IsIn n xs → IsIn m xs → n ≢ m → IsEarlier xs n m ⊎ IsEarlier xs m n
in_order [] n m h k ne = absurd h
in_order (x ∷ xs) n m h k ne =
    ⊎_elim (λ e. inl ((λ f. ne (sym e ∙ f)), inl e))
    (λ xn. ⊎_elim (λ f. inr (xn, inl f))
    (λ xm. ⊎_elim (λ a. inl (xm, inr a)) (λ a. inr (xn, inr a)) (in_order xs n m (rest_of n x xs xn h) (rest_of m x xs xm k) ne))
    (same_pair x m))
    (same_pair x n)

-- a walk sets out by one of the pairs
pub first_in : (ways : Pair → List Pair) (Ends : Pair → Type 0) {p f w : List Pair} → IsWalk ways Ends p f w → (k : Pair) × IsIn k f
first_in ways Ends (stops k here fresh ends) = (k, here)
first_in ways Ends (goes k here fresh rest) = (k, here)

-- a walk that sets out by an earlier way comes before
pub head_before : (ways : Pair → List Pair) (Ends : Pair → Type 0) (n m : Pair) (from w : List Pair) {p u : List Pair} →
    IsWalk ways Ends p (n ∷ []) u → IsEarlier from n m → IsBefore ways from u (m ∷ w)
head_before ways Ends n m from w (stops k here fresh ends) a =
    inl (⊎_elim (λ e. subst (λ x. IsEarlier from x m) e a) (λ never. absurd never) here)
head_before ways Ends n m from w (goes k here fresh rest) a =
    inl (⊎_elim (λ e. subst (λ x. IsEarlier from x m) e a) (λ never. absurd never) here)

head_no_later : (ways : Pair → List Pair) (n m : Pair) (from w : List Pair) {p u : List Pair} →
    IsTrail ways p (n ∷ []) u → IsEarlier from n m → IsNoLater ways from u (m ∷ w)
head_no_later ways n m from w (stops k here fresh ends) a =
    inl (⊎_elim (λ e. subst (λ x. IsEarlier from x m) e a) (λ never. absurd never) here)
head_no_later ways n m from w (goes k here fresh rest) a =
    inl (⊎_elim (λ e. subst (λ x. IsEarlier from x m) e a) (λ never. absurd never) here)

module _ (move : Pair → Pair) (one : (n m : Pair) → move n ≡ move m → n ≡ m) where
  pub in_moved : (n : Pair) (xs : List Pair) → IsIn n xs → IsIn (move n) (map move xs)
  in_moved n [] h = h
  in_moved n (m ∷ ms) h = ⊎_elim (λ e. inl (ap move e)) (λ q. inr (in_moved n ms q)) h

  pub moved_from : (k : Pair) (xs : List Pair) → IsIn k (map move xs) → (n : Pair) × IsIn n xs × (move n ≡ k)
  moved_from k [] h = absurd h
  moved_from k (m ∷ ms) h = ⊎_elim (λ e. (m, inl refl, e)) (λ q. let r = moved_from k ms q in (r.0, inr r.1, r.2)) h

  pub out_moved : (n : Pair) (xs : List Pair) → IsIn (move n) (map move xs) → IsIn n xs
  out_moved n xs h = let r = moved_from (move n) xs h in subst (λ x. IsIn x xs) (one r.0 n r.2) r.1

  pub earlier_moved : (xs : List Pair) (n m : Pair) → IsEarlier xs n m → IsEarlier (map move xs) (move n) (move m)
  earlier_moved [] n m h = h
  earlier_moved (k ∷ xs) n m h = ((λ e. h.0 (one k m e)), ⊎_elim (λ e. inl (ap move e)) (λ q. inr (earlier_moved xs n m q)) h.1)

-- what is seen along a step
module _ (ways : Pair → List Pair) (Seen : Pair → Type 0) where
  pub seen_here : (n : Pair) {passed from : List Pair} → AreSeen ways passed from Seen → IsIn n from → ¬ IsIn n passed → Seen n
  seen_here n all here fresh = all (n ∷ []) n (stops n here fresh tt) refl

  pub seen_on : (n : Pair) {passed from : List Pair} → AreSeen ways passed from Seen → IsIn n from → ¬ IsIn n passed →
      AreSeen ways (n ∷ passed) (ways n) Seen
  seen_on n all here fresh = λ v e t at. all (n ∷ v) e (goes n here fresh t) (EndsAt-cons ways (λ k. Unit {0}) n e t at)

  pub seen_by_here : (n : Pair) {passed from w : List Pair} → AreSeenBy ways passed from (n ∷ w) Seen → IsIn n from → ¬ IsIn n passed → Seen n
  seen_by_here n some here fresh = some (n ∷ []) n (stops n here fresh tt) (inr (refl, tt)) refl

  pub seen_by_on : (n : Pair) {passed from w : List Pair} → AreSeenBy ways passed from (n ∷ w) Seen → IsIn n from → ¬ IsIn n passed →
      AreSeenBy ways (n ∷ passed) (ways n) w Seen
  seen_by_on n some here fresh =
      λ v e t no at. some (n ∷ v) e (goes n here fresh t) (inr (refl, no)) (EndsAt-cons ways (λ k. Unit {0}) n e t at)

  -- by an earlier way all is seen
  pub seen_earlier : (n m : Pair) {passed from w : List Pair} → AreSeenBy ways passed from (m ∷ w) Seen → IsIn n from → IsEarlier from n m →
      AreSeen ways passed (n ∷ []) Seen
  seen_earlier n m {from = from} {w = w} some here a =
      λ v e t at. some v e (from_other ways (λ k. Unit {0}) n from here t) (head_no_later ways n m from w t a) at

module _ (ways1 ways2 : Pair → List Pair) (Ends1 Ends2 : Pair → Type 0) (move : Pair → Pair) (Seen : Pair → Type 0)
    (agree : Agree ways1 ways2 Ends1 Ends2 move Seen) where
  -- a walk goes over where all is seen
  pub all_over : {passed from w : List Pair} → AreSeen ways1 passed from Seen → IsWalk ways1 Ends1 passed from w →
      IsWalk ways2 Ends2 (map move passed) (map move from) (map move w)
  all_over {passed} {from} all (stops n here fresh ends) =
      stops (move n) (in_moved move agree.one n from here) (λ h. fresh (out_moved move agree.one n passed h))
      (agree.ends n (seen_here ways1 Seen n all here fresh) ends)
  all_over {passed} {from} all (goes {w = w} n here fresh rest) =
      goes (move n) (in_moved move agree.one n from here) (λ h. fresh (out_moved move agree.one n passed h))
      (subst (λ f. IsWalk ways2 Ends2 (move n ∷ map move passed) f (map move w)) (sym (agree.same_ways n (seen_here ways1 Seen n all here fresh)))
      (all_over (seen_on ways1 Seen n all here fresh) rest))

  -- and where what comes no later than it is seen
  pub over : {passed from w : List Pair} → AreSeenBy ways1 passed from w Seen → IsWalk ways1 Ends1 passed from w →
      IsWalk ways2 Ends2 (map move passed) (map move from) (map move w)
  over {passed} {from} some (stops n here fresh ends) =
      stops (move n) (in_moved move agree.one n from here) (λ h. fresh (out_moved move agree.one n passed h))
      (agree.ends n (seen_by_here ways1 Seen n some here fresh) ends)
  over {passed} {from} some (goes {w = w} n here fresh rest) =
      goes (move n) (in_moved move agree.one n from here) (λ h. fresh (out_moved move agree.one n passed h))
      (subst (λ f. IsWalk ways2 Ends2 (move n ∷ map move passed) f (map move w)) (sym (agree.same_ways n (seen_by_here ways1 Seen n some here fresh)))
      (over (seen_by_on ways1 Seen n some here fresh) rest))

  -- from which pair the second graph's pair comes
  pub record Came (passed from : List Pair) (k : Pair) : Type 0 where
    pub pair : Pair
    pub here : IsIn pair from
    pub fresh : ¬ IsIn pair passed
    pub is : move pair ≡ k

  pub came : (k : Pair) (passed from : List Pair) {p f : List Pair} → p ≡ map move passed → f ≡ map move from → IsIn k f → ¬ IsIn k p → Came passed from k
  came k passed from ep ef here fresh =
      let r = moved_from move agree.one k from (subst (λ x. IsIn k x) ef here) in
      record {
        pair = r.0;
        here = r.1;
        fresh = λ h. fresh (subst (λ x. IsIn k x) (sym ep) (subst (λ x. IsIn x (map move passed)) r.2 (in_moved move agree.one r.0 passed h)));
        is = r.2;
      }

  -- a walk of the second graph comes back where all is seen
  pub back : {p f v : List Pair} → IsWalk ways2 Ends2 p f v → (passed from : List Pair) → p ≡ map move passed → f ≡ map move from →
      AreSeen ways1 passed from Seen → (u : List Pair) × IsWalk ways1 Ends1 passed from u × (v ≡ map move u)
  back (stops k here fresh ends) passed from ep ef all =
      let c = came k passed from ep ef here fresh in
      let n = c.pair in
      (n ∷ [], stops n c.here c.fresh (agree.ends_back n (seen_here ways1 Seen n all c.here c.fresh) (subst Ends2 (sym c.is) ends)), ap (λ x. x ∷ []) (sym c.is))
  back (goes k here fresh rest) passed from ep ef all =
      let c = came k passed from ep ef here fresh in
      let n = c.pair in
      let r = back rest (n ∷ passed) (ways1 n) (ap₂ ◌∷◌ (sym c.is) ep)
      (sym (ap ways2 c.is) ∙ agree.same_ways n (seen_here ways1 Seen n all c.here c.fresh)) (seen_on ways1 Seen n all c.here c.fresh) in
      (n ∷ r.0, goes n c.here c.fresh r.1, ap₂ ◌∷◌ (sym c.is) r.2)

  -- without a walk there is none
  pub none_over : (passed from : List Pair) → AreSeen ways1 passed from Seen → HasNoWalk ways1 Ends1 passed from →
      HasNoWalk ways2 Ends2 (map move passed) (map move from)
  none_over passed from all none = λ v b. let r = back b passed from refl refl all in none r.0 r.1

  -- What a walk of the second graph is, beside one of the first: the same; or it comes later; or
  -- it is one of the first that comes before.
  abbrev Stands : List Pair → List Pair → List Pair → List Pair → List Pair → Type 0
  Stands passed from w f v =
      (v ≡ map move w) ⊎ IsBefore ways2 f (map move w) v ⊎ ((u : List Pair) × IsWalk ways1 Ends1 passed from u × IsBefore ways1 from u w)

  -- it sets out by another way
  other_way : (passed from w : List Pair) (m : Pair) {p f v : List Pair} (k : Pair) → p ≡ map move passed → f ≡ map move from → IsIn m from →
      (c : Came passed from k) → c.pair ≢ m → AreSeenBy ways1 passed from (m ∷ w) Seen → IsWalk ways2 Ends2 p (k ∷ []) (k ∷ v) →
      Stands passed from (m ∷ w) f (k ∷ v)
  other_way passed from w m {p} {f} {v} k ep ef here c ne some b =
      ⊎_elim
      (λ a. let r = back b passed (c.pair ∷ []) ep (ap (λ x. x ∷ []) (sym c.is)) (seen_earlier ways1 Seen c.pair m some c.here a) in
      inr (inr (r.0, from_other ways1 Ends1 c.pair from c.here r.1, head_before ways1 Ends1 c.pair m from w r.1 a)))
      (λ a. inr (inl (inl (subst (λ x. IsEarlier f (move m) x) c.is (subst (λ x. IsEarlier x (move m) (move c.pair)) (sym ef) (earlier_moved move agree.one from m c.pair a))))))
      (in_order from c.pair m c.here here ne)

  ends_on : {n : Pair} {p v : List Pair} → Ends1 n → IsWalk ways1 Ends1 p (ways1 n) v → ⊥
  ends_on {n} ends b = let r = first_in ways1 Ends1 b in agree.last n r.0 ends r.1

  ends_on_there : {n : Pair} {p f v : List Pair} → Seen n → Ends1 n → f ≡ ways2 (move n) → IsWalk ways2 Ends2 p f v → ⊥
  ends_on_there {n} seen ends e b =
      let r = first_in ways2 Ends2 b in
      let s = moved_from move agree.one r.0 (ways1 n) (subst (λ x. IsIn r.0 x) (e ∙ agree.same_ways n seen) r.1) in
      agree.last n s.0 ends s.1

  pub compare : {passed from w : List Pair} → IsWalk ways1 Ends1 passed from w → {p f v : List Pair} → IsWalk ways2 Ends2 p f v →
      p ≡ map move passed → f ≡ map move from → AreSeenBy ways1 passed from w Seen → Stands passed from w f v
  compare {passed} {from} (stops m here fresh ends) (stops k there free stop) ep ef some =
      let c = came k passed from ep ef there free in
      ⊎_elim (λ e. inl (ap (λ x. x ∷ []) (sym c.is ∙ ap move e)))
      (λ ne. other_way passed from [] m k ep ef here c ne some (stops k (inl refl) free stop))
      (same_pair c.pair m)
  compare {passed} {from} (stops m here fresh ends) (goes k there free more) ep ef some =
      let c = came k passed from ep ef there free in
      ⊎_elim (λ e. absurd (ends_on_there (seen_by_here ways1 Seen m some here fresh) ends (ap ways2 (sym c.is ∙ ap move e)) more))
      (λ ne. other_way passed from [] m k ep ef here c ne some (goes k (inl refl) free more))
      (same_pair c.pair m)
  compare {passed} {from} (goes {w = w} m here fresh rest) (stops k there free stop) ep ef some =
      let c = came k passed from ep ef there free in
      ⊎_elim
      (λ e. absurd (ends_on (agree.ends_back m (seen_by_here ways1 Seen m some here fresh) (subst Ends2 (sym c.is ∙ ap move e) stop)) rest))
      (λ ne. other_way passed from w m k ep ef here c ne some (stops k (inl refl) free stop))
      (same_pair c.pair m)
  compare {passed} {from} (goes {w = w} m here fresh rest) {f = f} (goes {w = v} k there free more) ep ef some =
      let c = came k passed from ep ef there free in
      ⊎_elim
      (λ e. let is : k ≡ move m = sym c.is ∙ ap move e in
      let r = compare rest more (ap₂ ◌∷◌ is ep) (ap ways2 is ∙ agree.same_ways m (seen_by_here ways1 Seen m some here fresh))
      (seen_by_on ways1 Seen m some here fresh) in
      ⊎_elim (λ same. inl (ap₂ ◌∷◌ is same))
      (λ o. ⊎_elim (λ later. inr (inl (inr (sym is, subst (λ x. IsBefore ways2 (ways2 x) (map move w) v) is later))))
      (λ (u : (u : List Pair) × IsWalk ways1 Ends1 (m ∷ passed) (ways1 m) u × IsBefore ways1 (ways1 m) u w).
      inr (inr (m ∷ u.0, goes m here fresh u.1, inr (refl, u.2)))) o)
      r)
      (λ ne. other_way passed from w m k ep ef here c ne some (goes k (inl refl) free more))
      (same_pair c.pair m)

  -- the first walk is the first walk
  pub first_over : (passed from w : List Pair) → AreSeenBy ways1 passed from w Seen → IsFirstWalk ways1 Ends1 passed from w →
      IsFirstWalk ways2 Ends2 (map move passed) (map move from) (map move w)
  first_over passed from w some first = record {
    is_walk = over some first.is_walk;
    is_least = λ v b. ⊎_elim (λ same. inl same)
        (λ o. ⊎_elim (λ later. inr later)
        (λ (u : (u : List Pair) × IsWalk ways1 Ends1 passed from u × IsBefore ways1 from u w).
        absurd (⊎_elim (λ e. not_before_both ways1 from w w (subst (λ x. IsBefore ways1 from x w) e u.2) (subst (λ x. IsBefore ways1 from x w) e u.2))
        (λ q. not_before_both ways1 from w u.0 q u.2) (first.is_least u.0 u.1))) o)
        (compare first.is_walk b refl refl some);
  }

-- nothing comes before what is no walk
not_before_none : (ways : Pair → List Pair) (from w : List Pair) → IsBefore ways from w [] → ⊥
not_before_none ways from [] b = b
not_before_none ways from (n ∷ w) b = b

module _ (ways1 ways2 : Pair → List Pair) (Ends1 Ends2 : Pair → Type 0) (move : Pair → Pair) (Seen : Pair → Type 0)
    (agree : Agree ways1 ways2 Ends1 Ends2 move Seen) where
  -- what comes before stays before, where all is seen
  pub before_over : {passed from w : List Pair} → IsWalk ways1 Ends1 passed from w → (v : List Pair) → AreSeen ways1 passed from Seen →
      IsBefore ways1 from w v → IsBefore ways2 (map move from) (map move w) (map move v)
  before_over {from = from} (stops n here fresh ends) [] all b = b
  before_over {from = from} (stops n here fresh ends) (m ∷ v) all b =
      ⊎_elim (λ a. inl (earlier_moved move agree.one from n m a)) (λ (q : (n ≡ m) × IsBefore ways1 (ways1 n) [] v). absurd (none_first v q.1)) b
    where
      none_first : (v : List Pair) → IsBefore ways1 (ways1 n) [] v → ⊥
      none_first [] h = h
      none_first (k ∷ v) h = h
  before_over {from = from} (goes n here fresh rest) [] all b = absurd b
  before_over {from = from} (goes {w = w} n here fresh rest) (m ∷ v) all b =
      ⊎_elim (λ a. inl (earlier_moved move agree.one from n m a))
      (λ q. inr (
        ap move q.0,
        subst (λ f. IsBefore ways2 f (map move w) (map move v)) (sym (agree.same_ways n (seen_here ways1 Seen n all here fresh)))
            (before_over rest v (seen_on ways1 Seen n all here fresh) q.1),
      ))
      b

pub trail_law : TrailLaw
trail_law = record {
  first = λ ways1 ways2 ends1 ends2 seen move passed from w agree first some.
      first_over ways1 ways2 (λ n. IsTrue (ends1 n)) (λ n. IsTrue (ends2 n)) move (λ n. IsTrue (seen n)) agree passed from w some first;
  none = λ ways1 ways2 ends1 ends2 seen move passed from agree none all.
      none_over ways1 ways2 (λ n. IsTrue (ends1 n)) (λ n. IsTrue (ends2 n)) move (λ n. IsTrue (seen n)) agree passed from all none;
}
