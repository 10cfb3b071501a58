-- A way that comes back to a pair can leave the round out.
use Rattle.std.proofs.Common.{◌≡◌, ◌≢◌, ℕ, suc, ◌⊎◌, List, [], ◌∷◌, inl, inr, ⊎_elim, sym, subst, ◌∙◌, refl}
use Rattle.rc_walks.specs.Walks.{Pair, IsIn, IsWalk, stops, goes, IsBefore, IsEarlier, IsFirstWalk, EndsAt}

-- so many edges lead from the one pair to the other
pub data Leads (next : Pair → List Pair) : ℕ → Pair → Pair → Type 0 where
  stays : (n : Pair) → Leads next 0 n n
  steps : {len : ℕ} (n m k : Pair) → IsIn m (next n) → Leads next len m k → Leads next (suc len) n k

module _ (ways : Pair → List Pair) (Ends : Pair → Type 0) where
  pub EndsAt-cons : (n e : Pair) {p f w : List Pair} → IsWalk ways Ends p f w → EndsAt w e → EndsAt (n ∷ w) e
  EndsAt-cons n e (stops k here fresh ends) h = h
  EndsAt-cons n e (goes k here fresh rest) h = h

  pub EndsAt-tail : (n e : Pair) {p f w : List Pair} → IsWalk ways Ends p f w → EndsAt (n ∷ w) e → EndsAt w e
  EndsAt-tail n e (stops k here fresh ends) h = h
  EndsAt-tail n e (goes k here fresh rest) h = h

  pub avoids : {p f w : List Pair} → IsWalk ways Ends p f w → (k : Pair) → IsIn k w → ¬ IsIn k p
  avoids {p = p} (stops n here fresh ends) k h = ⊎_elim (λ e. subst (λ x. ¬ IsIn x p) e fresh) (λ never. absurd never) h
  avoids {p = p} (goes n here fresh rest) k h =
      ⊎_elim (λ e. subst (λ x. ¬ IsIn x p) e fresh) (λ q. λ z. avoids rest k q (inr z)) h

  pub loosen : {p f w : List Pair} → IsWalk ways Ends p f w → (q : List Pair) → ((k : Pair) → IsIn k w → ¬ IsIn k q) → IsWalk ways Ends q f w
  loosen (stops n here fresh ends) q free = stops n here (free n (inl refl)) ends
  loosen (goes n here fresh rest) q free =
      goes n here (free n (inl refl))
      (loosen rest (n ∷ q) (λ k h. λ z. ⊎_elim (λ e. avoids rest k h (inl e)) (λ y. free k (inr h) y) z))

  pub suffix : (n : Pair) (e : Pair) {p f w : List Pair} → IsWalk ways Ends p f w → IsIn n w → EndsAt w e →
      (u : List Pair) × IsWalk ways Ends p (n ∷ []) u × EndsAt u e
  suffix n e (stops k here fresh ends) h at =
      ⊎_elim (λ q. (k ∷ [], stops k (inl (sym q)) fresh ends, at)) (λ never. absurd never) h
  suffix n e {p = p} (goes {w = w} k here fresh rest) h at =
      ⊎_elim (λ q. (k ∷ w, goes k (inl (sym q)) fresh rest, at))
      (λ q. let r = suffix n e rest q (EndsAt-tail k e rest at) in
      (r.0, loosen r.1 p (λ m i. λ z. avoids r.1 m i (inr z)), r.2)) h

  pub from_other : (m : Pair) (g : List Pair) {p w : List Pair} → IsIn m g → IsWalk ways Ends p (m ∷ []) w → IsWalk ways Ends p g w
  from_other m g i (stops k here fresh ends) = stops k (⊎_elim (λ e. subst (λ x. IsIn x g) e i) (λ never. absurd never) here) fresh ends
  from_other m g i (goes k here fresh rest) = goes k (⊎_elim (λ e. subst (λ x. IsIn x g) e i) (λ never. absurd never) here) fresh rest

  module _ (decide : (n m : Pair) → (n ≡ m) ⊎ (n ≢ m)) where
    pub is_in_or_not : (n : Pair) (w : List Pair) → IsIn n w ⊎ (¬ IsIn n w)
    is_in_or_not n [] = inr (λ h. h)
    is_in_or_not n (m ∷ w) =
        ⊎_elim (λ e. inl (inl e)) (λ ne. ⊎_elim (λ i. inl (inr i)) (λ no. inr (λ z. ⊎_elim ne no z)) (is_in_or_not n w)) (decide m n)

    -- where edges lead to a place where a walk may end, a walk leads there
    pub cut : {len : ℕ} {n e : Pair} → Leads ways len n e → Ends e → (w : List Pair) × IsWalk ways Ends [] (n ∷ []) w × EndsAt w e
    cut (stays n) ends = (n ∷ [], stops n (inl refl) (λ h. h) ends, refl)
    cut (steps n m k here l) ends =
        let r = cut l ends in
        ⊎_elim (λ i. suffix n k r.1 i r.2)
        (λ no. (
          n ∷ r.0,
          goes n (inl refl) (λ h. h)
              (loosen (from_other m (ways n) here r.1) (n ∷ []) (λ j i. λ z. ⊎_elim (λ e. no (subst (λ x. IsIn x r.0) (sym e) i)) (λ never. never) z)),
          EndsAt-cons n k r.1 r.2,
        ))
        (is_in_or_not n r.0)

  -- a walk is such a way
  pub leads_along : (e : Pair) {p f w : List Pair} → IsWalk ways Ends p f w → EndsAt w e →
      (m : Pair) × IsIn m f × ((len : ℕ) × Leads ways len m e) × Ends e
  leads_along e (stops k here fresh ends) at = (k, here, (0, subst (λ x. Leads ways 0 k x) at (stays k)), subst Ends at ends)
  leads_along e (goes k here fresh rest) at =
      let r = leads_along e rest (EndsAt-tail k e rest at) in
      (k, here, (suc r.2.0, steps k r.0 e r.1 r.2.1), r.3)

not_earlier_both : (from : List Pair) (n m : Pair) → IsEarlier from n m → IsEarlier from m n → ⊥
not_earlier_both [] n m a b = a
not_earlier_both (k ∷ from) n m a b =
    ⊎_elim (λ e. b.0 e) (λ p. ⊎_elim (λ e. a.0 e) (λ q. not_earlier_both from n m p q) b.1) a.1

not_earlier_same : (from : List Pair) (n m : Pair) → n ≡ m → IsEarlier from n m → ⊥
not_earlier_same [] n m e a = a
not_earlier_same (k ∷ from) n m e a = ⊎_elim (λ p. a.0 (p ∙ e)) (λ p. not_earlier_same from n m e p) a.1

-- of two walks at most one comes before the other
pub not_before_both : (ways : Pair → List Pair) (from v w : List Pair) → IsBefore ways from v w → IsBefore ways from w v → ⊥
not_before_both ways from [] w a b = a
not_before_both ways from (n ∷ v) [] a b = a
not_before_both ways from (n ∷ v) (m ∷ w) a b =
    ⊎_elim
    (λ p. ⊎_elim (λ q. not_earlier_both from n m p q) (λ q. not_earlier_same from n m (sym q.0) p) b)
    (λ p. ⊎_elim (λ q. not_earlier_same from m n (sym p.0) q)
    (λ q. not_before_both ways (ways n) v w p.1 (subst (λ x. IsBefore ways (ways x) w v) (sym p.0) q.1)) b)
    a

-- there is one first walk
pub first_is_one : (ways : Pair → List Pair) (Ends : Pair → Type 0) (passed from v w : List Pair) →
    IsFirstWalk ways Ends passed from v → IsFirstWalk ways Ends passed from w → v ≡ w
first_is_one ways Ends passed from v w a b =
    ⊎_elim (λ e. e) (λ p. ⊎_elim (λ e. sym e) (λ q. absurd (not_before_both ways from v w q p)) (a.is_least w b.is_walk)) (b.is_least v a.is_walk)
