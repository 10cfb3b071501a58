-- Walks by the first or the second part of a list of ways.
use Rattle.std.proofs.Common.{◌≡◌, ◌≢◌, ◌⊎◌, List, [], ◌∷◌, ◌++◌, inl, inr, ⊎_elim, sym, subst, refl}
use Rattle.rc_walks.specs.Walks.{Pair, IsIn, IsWalk, stops, goes, IsBefore, IsEarlier, IsFirstWalk, HasNoWalk}
use Rattle.rc_walks.proofs.WalkLemmas.{first_after}
use Rattle.rc_walks.proofs.CutLemmas.{from_other}

pub in_left : (n : Pair) (xs ys : List Pair) → IsIn n xs → IsIn n (xs ++ ys)
in_left n [] ys h = absurd h
in_left n (x ∷ xs) ys h = ⊎_elim (λ e. inl e) (λ q. inr (in_left n xs ys q)) h

pub in_right : (n : Pair) (xs ys : List Pair) → IsIn n ys → IsIn n (xs ++ ys)
in_right n [] ys h = h
in_right n (x ∷ xs) ys h = inr (in_right n xs ys h)

pub in_parts : (n : Pair) (xs ys : List Pair) → IsIn n (xs ++ ys) → IsIn n xs ⊎ IsIn n ys
in_parts n [] ys h = inr h
in_parts n (x ∷ xs) ys h =
    ⊎_elim (λ e. inl (inl e)) (λ q. ⊎_elim (λ a. inl (inr a)) (λ b. inr b) (in_parts n xs ys q)) h

-- the first pair stands in the list
abbrev pub HeadIn : List Pair → List Pair → Type 0
HeadIn xs [] = ⊥
HeadIn xs (n ∷ w) = IsIn n xs

module _ (ways : Pair → List Pair) (Ends : Pair → Type 0) where
  -- the same walk by other ways that hold its first pair
  pub from_more : {passed from more v : List Pair} → ((n : Pair) → IsIn n from → IsIn n more) →
      IsWalk ways Ends passed from v → IsWalk ways Ends passed more v
  from_more within (stops k here fresh ends) = stops k (within k here) fresh ends
  from_more within (goes k here fresh rest) = goes k (within k here) fresh rest

  pub no_walk_both : {passed xs ys : List Pair} → HasNoWalk ways Ends passed xs → HasNoWalk ways Ends passed ys →
      HasNoWalk ways Ends passed (xs ++ ys)
  no_walk_both {xs = xs} {ys = ys} a b v (stops k here fresh ends) =
      ⊎_elim (λ p. a _ (stops k p fresh ends)) (λ p. b _ (stops k p fresh ends)) (in_parts k xs ys here)
  no_walk_both {xs = xs} {ys = ys} a b v (goes k here fresh rest) =
      ⊎_elim (λ p. a _ (goes k p fresh rest)) (λ p. b _ (goes k p fresh rest)) (in_parts k xs ys here)

  pub no_walk_left : {passed : List Pair} (xs ys : List Pair) → HasNoWalk ways Ends passed (xs ++ ys) → HasNoWalk ways Ends passed xs
  no_walk_left xs ys a v b = a v (from_more (λ n. in_left n xs ys) b)

  pub no_walk_right : {passed : List Pair} (xs ys : List Pair) → HasNoWalk ways Ends passed (xs ++ ys) → HasNoWalk ways Ends passed ys
  no_walk_right xs ys a v b = a v (from_more (λ n. in_right n xs ys) b)

  -- a walk by one dead way after another is none
  pub dead_all : {passed : List Pair} (xs : List Pair) →
      ((n : Pair) → IsIn n xs → HasNoWalk ways Ends passed (n ∷ [])) → HasNoWalk ways Ends passed xs
  dead_all xs dead v (stops k here fresh ends) = dead k here _ (stops k (inl refl) fresh ends)
  dead_all xs dead v (goes k here fresh rest) = dead k here _ (goes k (inl refl) fresh rest)

  pub dead_each : {passed xs : List Pair} → HasNoWalk ways Ends passed xs → (n : Pair) → IsIn n xs → HasNoWalk ways Ends passed (n ∷ [])
  dead_each {xs = xs} none n i v b = none v (from_other ways Ends n xs i b)

  -- the ways before are dead
  pub first_behind : {passed ys w : List Pair} (xs : List Pair) → HasNoWalk ways Ends passed xs →
      IsFirstWalk ways Ends passed ys w → IsFirstWalk ways Ends passed (xs ++ ys) w
  first_behind [] none f = f
  first_behind (x ∷ xs) none f =
      first_after ways Ends x (dead_each none x (inl refl)) (first_behind xs (λ v b. none v (from_more (λ n i. inr i) b)) f)

  module _ (decide : (n m : Pair) → (n ≡ m) ⊎ (n ≢ m)) where
    pub is_in_or_not : (n : Pair) (w : List Pair) → IsIn n w ⊎ (¬ IsIn n w)
    is_in_or_not n [] = inr (λ h. h)
    is_in_or_not n (m ∷ w) =
        ⊎_elim (λ e. inl (inl e)) (λ ne. ⊎_elim (λ i. inl (inr i)) (λ no. inr (λ z. ⊎_elim ne no z)) (is_in_or_not n w)) (decide m n)

    head_in_or_not : (xs w : List Pair) → HeadIn xs w ⊎ (¬ HeadIn xs w)
    head_in_or_not xs [] = inr (λ h. h)
    head_in_or_not xs (n ∷ w) = is_in_or_not n xs

    head_in : {passed xs v : List Pair} → IsWalk ways Ends passed xs v → HeadIn xs v
    head_in (stops k here fresh ends) = here
    head_in (goes k here fresh rest) = here

    earlier_in : (n m : Pair) (xs : List Pair) → IsEarlier xs n m → IsIn n xs
    earlier_in n m [] h = h
    earlier_in n m (x ∷ xs) h = ⊎_elim (λ e. inl e) (λ q. inr (earlier_in n m xs q)) h.1

    earlier_left : (n m : Pair) (xs ys : List Pair) → IsIn n xs → ¬ IsIn m xs → IsEarlier (xs ++ ys) n m
    earlier_left n m [] ys a b = absurd a
    earlier_left n m (x ∷ xs) ys a b =
        ((λ e. b (inl e)), ⊎_elim (λ e. inl e) (λ q. inr (earlier_left n m xs ys q (λ z. b (inr z)))) a)

    -- among ways of the first part the second part doesn't count
    earlier_wider : (n m : Pair) (xs ys : List Pair) → IsEarlier xs n m → IsEarlier (xs ++ ys) n m
    earlier_wider n m [] ys h = absurd h
    earlier_wider n m (x ∷ xs) ys h = (h.0, ⊎_elim (λ e. inl e) (λ q. inr (earlier_wider n m xs ys q)) h.1)

    earlier_narrower : (n m : Pair) (xs ys : List Pair) → IsIn m xs → IsEarlier (xs ++ ys) n m → IsEarlier xs n m
    earlier_narrower n m [] ys i h = absurd i
    earlier_narrower n m (x ∷ xs) ys i h =
        (h.0, ⊎_elim (λ e. inl e) (λ q. inr (earlier_narrower n m xs ys (⊎_elim (λ e. absurd (h.0 e)) (λ z. z) i) q)) h.1)

    -- m isn't in the first part, so an earlier way is in the first part or comes earlier in the second
    earlier_behind : (n m : Pair) (xs ys : List Pair) → IsEarlier (xs ++ ys) n m → IsIn n xs ⊎ IsEarlier ys n m
    earlier_behind n m [] ys h = inr h
    earlier_behind n m (x ∷ xs) ys h =
        ⊎_elim (λ e. inl (inl e)) (λ q. ⊎_elim (λ i. inl (inr i)) (λ z. inr z) (earlier_behind n m xs ys q)) h.1

    before_wider : (xs ys w v : List Pair) → IsBefore ways xs w v → IsBefore ways (xs ++ ys) w v
    before_wider xs ys [] v r = r
    before_wider xs ys (n ∷ w) [] r = r
    before_wider xs ys (n ∷ w) (m ∷ v) r = ⊎_elim (λ p. inl (earlier_wider n m xs ys p)) (λ q. inr q) r

    before_narrower : (xs ys w v : List Pair) → HeadIn xs v → IsBefore ways (xs ++ ys) w v → IsBefore ways xs w v
    before_narrower xs ys [] v i r = r
    before_narrower xs ys (n ∷ w) [] i r = r
    before_narrower xs ys (n ∷ w) (m ∷ v) i r = ⊎_elim (λ p. inl (earlier_narrower n m xs ys i p)) (λ q. inr q) r

    before_behind : (xs ys w v : List Pair) → ¬ HeadIn xs w → IsBefore ways (xs ++ ys) w v → IsBefore ways ys w v
    before_behind xs ys [] v i r = r
    before_behind xs ys (n ∷ w) [] i r = r
    before_behind xs ys (n ∷ w) (m ∷ v) i r =
        ⊎_elim (λ p. ⊎_elim (λ z. absurd (i z)) (λ z. inl z) (earlier_behind n m xs ys p)) (λ q. inr q) r

    -- what comes before a walk of the first part begins in it
    before_in : (xs ys w v : List Pair) → HeadIn xs v → IsBefore ways (xs ++ ys) w v → HeadIn xs w
    before_in xs ys [] v i r = absurd r
    before_in xs ys (n ∷ w) [] i r = absurd r
    before_in xs ys (n ∷ w) (m ∷ v) i r =
        ⊎_elim (λ p. earlier_in n m xs (earlier_narrower n m xs ys i p)) (λ q. subst (λ x. IsIn x xs) (sym q.0) i) r

    -- the ways behind don't count
    pub first_ahead : {passed xs w : List Pair} (ys : List Pair) → IsFirstWalk ways Ends passed xs w → IsFirstWalk ways Ends passed (xs ++ ys) w
    first_ahead {passed} {xs} {w} ys f = record {
      is_walk = from_more (λ n. in_left n xs ys) f.is_walk;
      is_least = λ v b. ⊎_elim
          (λ (i : HeadIn xs v). let c = narrower i b in
          ⊎_elim (λ e. inl e) (λ r. inr (before_wider xs ys w v r)) (f.is_least v c))
          (λ no. inr (before_heads w v (head_in f.is_walk) no b))
          (head_in_or_not xs v);
    }
      where
        narrower : {v : List Pair} → HeadIn xs v → IsWalk ways Ends passed (xs ++ ys) v → IsWalk ways Ends passed xs v
        narrower i (stops k here fresh ends) = stops k i fresh ends
        narrower i (goes k here fresh rest) = goes k i fresh rest

        before_heads : (w v : List Pair) → HeadIn xs w → ¬ HeadIn xs v → IsWalk ways Ends passed (xs ++ ys) v → IsBefore ways (xs ++ ys) w v
        before_heads [] v i off b = absurd i
        before_heads (n ∷ w) v i off (stops k here fresh ends) = inl (earlier_left n k xs ys i off)
        before_heads (n ∷ w) v i off (goes k here fresh rest) = inl (earlier_left n k xs ys i off)

    -- The first walk sets out by the first part, or no walk does.
    pub first_parts : {passed : List Pair} (xs : List Pair) {ys w : List Pair} → IsFirstWalk ways Ends passed (xs ++ ys) w →
        IsFirstWalk ways Ends passed xs w ⊎ (HasNoWalk ways Ends passed xs × IsFirstWalk ways Ends passed ys w)
    first_parts {passed} xs {ys} {w} f =
        ⊎_elim
        (λ i. inl (record {
          is_walk = narrower i f.is_walk;
          is_least = λ v b. ⊎_elim (λ e. inl e) (λ r. inr (before_narrower xs ys w v (head_in b) r))
              (f.is_least v (from_more (λ n. in_left n xs ys) b));
        }))
        (λ no. inr (
          (λ v b. ⊎_elim (λ e. no (subst (λ x. HeadIn xs x) e (head_in b))) (λ r. no (before_in xs ys w v (head_in b) r))
              (f.is_least v (from_more (λ n. in_left n xs ys) b))),
          record {
            is_walk = behind no f.is_walk;
            is_least = λ v b. ⊎_elim (λ e. inl e) (λ r. inr (before_behind xs ys w v no r))
                (f.is_least v (from_more (λ n. in_right n xs ys) b));
          },
        ))
        (head_in_or_not xs w)
      where
        narrower : {v : List Pair} → HeadIn xs v → IsWalk ways Ends passed (xs ++ ys) v → IsWalk ways Ends passed xs v
        narrower i (stops k here fresh ends) = stops k i fresh ends
        narrower i (goes k here fresh rest) = goes k i fresh rest

        behind : {v : List Pair} → ¬ HeadIn xs v → IsWalk ways Ends passed (xs ++ ys) v → IsWalk ways Ends passed ys v
        behind off (stops k here fresh ends) = stops k (⊎_elim (λ i. absurd (off i)) (λ i. i) (in_parts k xs ys here)) fresh ends
        behind off (goes k here fresh rest) = goes k (⊎_elim (λ i. absurd (off i)) (λ i. i) (in_parts k xs ys here)) fresh rest
