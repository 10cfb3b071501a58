-- One lemma for each step of an ordered pass, in which a pair enters once at a position: what the state after the step gives, the
-- state before it gives.
use Rattle.std.proofs.Common.{◌≡◌, ◌≢◌, ℕ, ◌+◌, ◌<◌, ◌≤◌, ◌⊎◌, List, [], ◌∷◌, ◌++◌, Option, Some, inl, inr, ⊎_elim, sym, subst, ap, refl, arith}
use Rattle.rc_walks.specs.Walks.{Pair, IsIn, IsWalk, stops, goes, IsFirstWalk, HasNoWalk}
use Rattle.rc_walks.specs.Threads.{noted, IsFirstOf, over, found, passes, threads, AllPast, Pends}
use Rattle.rc_walks.proofs.WalkLemmas.{first_after, first_stops, first_goes, drop_way}
use Rattle.rc_walks.proofs.CutLemmas.{loosen, avoids}
use Rattle.rc_walks.proofs.StackLemmas.{no_ways, dead_if_passed, dead_if_tried}
use Rattle.rc_walks.proofs.TryLemmas.{first_way}

-- the pairs stand at positions up to at
abbrev pub AllUpTo : ℕ → List Pair → Type 0
AllUpTo at v = (k : Pair) → IsIn k v → k.1 ≤ at

module _ (ways : Pair → List Pair) (Ends : Pair → Type 0) where
  -- a walk that passes a pair goes on as a walk from that pair
  pub from_within : (n : Pair) {p f w : List Pair} → IsWalk ways Ends p f w → IsIn n w → (u : List Pair) × IsWalk ways Ends p (n ∷ []) u
  from_within n (stops k here fresh ends) h =
      ⊎_elim (λ q. (k ∷ [], stops k (inl (sym q)) fresh ends)) (λ never. absurd never) h
  from_within n {p = p} (goes {w = w} k here fresh rest) h =
      ⊎_elim (λ q. (k ∷ w, goes k (inl (sym q)) fresh rest))
      (λ q. let r = from_within n rest q in
      (r.0, loosen ways Ends r.1 p (λ m i. λ z. avoids ways Ends r.1 m i (inr z)))) h

  -- where no walk leads on from n, walks keep off n by themselves
  pub keeps_off : (n : Pair) {p f w : List Pair} → HasNoWalk ways Ends p (n ∷ []) → IsWalk ways Ends p f w → IsWalk ways Ends (n ∷ p) f w
  keeps_off n {p = p} none b =
      loosen ways Ends b (n ∷ p)
      (λ k i. λ z. ⊎_elim
      (λ e. let r = from_within k b i in none r.0 (subst (λ x. IsWalk ways Ends p (x ∷ []) r.0) (sym e) r.1))
      (λ q. avoids ways Ends b k i q) z)

  pub fewer_passed : (n : Pair) {p f w : List Pair} → IsWalk ways Ends (n ∷ p) f w → IsWalk ways Ends p f w
  fewer_passed n {p = p} b = loosen ways Ends b p (λ k i. λ z. avoids ways Ends b k i (inr z))

  -- two lists of passed pairs between which walks from f make no difference
  pub record Alike (p q f : List Pair) : Type 0 where
    pub there : (w : List Pair) → IsWalk ways Ends p f w → IsWalk ways Ends q f w
    pub back : (w : List Pair) → IsWalk ways Ends q f w → IsWalk ways Ends p f w

  pub first_alike : (p q f w : List Pair) → Alike p q f → IsFirstWalk ways Ends p f w → IsFirstWalk ways Ends q f w
  first_alike p q f w a x = record {
    is_walk = a.there w x.is_walk;
    is_least = λ v b. x.is_least v (a.back v b);
  }

  pub none_alike : (p q f : List Pair) → Alike p q f → HasNoWalk ways Ends p f → HasNoWalk ways Ends q f
  none_alike p q f a x = λ v b. x v (a.back v b)

  pub dead_alike : (n : Pair) (p f : List Pair) → HasNoWalk ways Ends p (n ∷ []) → Alike (n ∷ p) p f
  dead_alike n p f none = record { there = λ w b. fewer_passed n b; back = λ w b. keeps_off n none b }

  module _ (onward : (n m : Pair) → IsIn m (ways n) → n.1 ≤ m.1) where
    -- all pairs of a walk stand where it begins, or after
    pub all_onward : (at : ℕ) {p f w : List Pair} → ((k : Pair) → IsIn k f → at ≤ k.1) → IsWalk ways Ends p f w → (k : Pair) → IsIn k w → at ≤ k.1
    all_onward at low (stops n here fresh ends) k i = ⊎_elim (λ e. subst (λ x. at ≤ x.1) e (low n here)) (λ never. absurd never) i
    all_onward at low (goes n here fresh rest) k i =
        let h : at ≤ n.1 = low n here in
        ⊎_elim (λ e. subst (λ x. at ≤ x.1) e h)
        (λ q. all_onward at (λ m j. let g : n.1 ≤ m.1 = onward n m j in omega arith) rest k q) i

    -- pairs passed at earlier positions make no difference
    pub past_alike : (at : ℕ) (p f : List Pair) → AllUpTo at p → ((k : Pair) → IsIn k f → at < k.1) → Alike p [] f
    past_alike at p f low high = record {
      there = λ w b. loosen ways Ends b [] (λ k i. λ z. z);
      back = λ w b. loosen ways Ends b p (λ k i. λ z.
          let x : at + 1 ≤ k.1 = all_onward (at + 1) (λ m j. let g : at < m.1 = high m j in omega arith) b k i in
          let y : k.1 ≤ at = low k z in omega arith);
    }

module _ (ways : Pair → List Pair) (Ends : Pair → Type 0) (H : Type 0) (note : H → Pair → H) where
  pub of_none : {p : List Pair} {R : Option H → Type 0} {o : Option H} → IsFirstOf ways Ends H note p R [] o → R o
  of_none (over r) = r

  pub of_one : {p : List Pair} {R : Option H → Type 0} {t : H × Pair} {ts : List (H × Pair)} {o : Option H} →
      IsFirstOf ways Ends H note p R (t ∷ ts) o →
      ((w : List Pair) × IsFirstWalk ways Ends p (t.1 ∷ []) w × (o ≡ Some (noted note t.0 w)))
      ⊎ (HasNoWalk ways Ends p (t.1 ∷ []) × IsFirstOf ways Ends H note p R ts o)
  of_one (found t w f) = inl (w, f, refl)
  of_one (passes t none x) = inr (none, x)

  pub of_rest : {p : List Pair} {R S : Option H → Type 0} {ts : List (H × Pair)} {o : Option H} → ((q : Option H) → R q → S q) →
      IsFirstOf ways Ends H note p R ts o → IsFirstOf ways Ends H note p S ts o
  of_rest f (over r) = over (f _ r)
  of_rest f (found t w x) = found t w x
  of_rest f (passes t none x) = passes t none (of_rest f x)

  pub of_append : {p : List Pair} {R : Option H → Type 0} (xs : List (H × Pair)) {ys : List (H × Pair)} {o : Option H} →
      IsFirstOf ways Ends H note p R (xs ++ ys) o →
      IsFirstOf ways Ends H note p (λ q. IsFirstOf ways Ends H note p R ys q) xs o
  of_append [] x = over x
  of_append {p} {R} (t ∷ xs) {ys} {o} x =
      ⊎_elim
      (λ f. subst (λ y. IsFirstOf ways Ends H note p (λ q. IsFirstOf ways Ends H note p R ys q) (t ∷ xs) y) (sym f.2) (found t f.0 f.1))
      (λ f. passes t f.0 (of_append xs f.1)) (of_one x)

  abbrev pub AllAlike : List Pair → List Pair → List (H × Pair) → Type 0
  AllAlike p q [] = Unit {0}
  AllAlike p q (t ∷ ts) = Alike ways Ends p q (t.1 ∷ []) × AllAlike p q ts

  pub of_alike : {p q : List Pair} {R : Option H → Type 0} {ts : List (H × Pair)} {o : Option H} →
      IsFirstOf ways Ends H note p R ts o → AllAlike p q ts → IsFirstOf ways Ends H note q R ts o
  of_alike (over r) a = over r
  of_alike {p} {q} (found t w f) a = found t w (first_alike ways Ends p q _ w a.0 f)
  of_alike {p} {q} (passes t none x) a = passes t (none_alike ways Ends p q _ a.0 none) (of_alike x a.1)

  dead_all : (n : Pair) (p : List Pair) → HasNoWalk ways Ends p (n ∷ []) → (ts : List (H × Pair)) → AllAlike (n ∷ p) p ts
  dead_all n p none [] = tt
  dead_all n p none (t ∷ ts) = (dead_alike ways Ends n p (t.1 ∷ []) none, dead_all n p none ts)

  -- entered already
  pub skips_pends : (t : H × Pair) (v : List Pair) (R : Option H → Type 0) (ts : List (H × Pair)) (o : Option H) → IsIn t.1 v →
      IsFirstOf ways Ends H note v R ts o → IsFirstOf ways Ends H note v R (t ∷ ts) o
  skips_pends t v R ts o i x = passes t (λ u b. dead_if_passed ways Ends i b) x

  module _ (decide : (n m : Pair) → (n ≡ m) ⊎ (n ≢ m)) (last : (n m : Pair) → Ends n → ¬ IsIn m (ways n)) where
    -- threads with one history are one choice
    pub of_ways : {p : List Pair} {R : Option H → Type 0} (h : H) (ms : List Pair) {ts : List (H × Pair)} {o : Option H} →
        IsFirstOf ways Ends H note p R (threads h ms ++ ts) o →
        ((w : List Pair) × IsFirstWalk ways Ends p ms w × (o ≡ Some (noted note h w)))
        ⊎ (HasNoWalk ways Ends p ms × IsFirstOf ways Ends H note p R ts o)
    of_ways h [] x = inr ((λ v b. no_ways ways Ends b), x)
    of_ways {p} h (m ∷ ms) x =
        ⊎_elim (λ f. inl (f.0, first_way ways Ends decide m f.1, f.2))
        (λ f. ⊎_elim (λ g. inl (g.0, first_after ways Ends m f.0 g.1, g.2))
        (λ g. inr ((λ v b. g.0 v (drop_way ways Ends m f.0 b)), g.1)) (of_ways h ms f.1))
        (of_one x)

    -- a pair is entered
    pub enters_pends : (t : H × Pair) (v : List Pair) (R : Option H → Type 0) (ts : List (H × Pair)) (o : Option H) →
        ¬ IsIn t.1 v → ¬ Ends t.1 →
        IsFirstOf ways Ends H note (t.1 ∷ v) R (threads (note t.0 t.1) (ways t.1) ++ ts) o →
        IsFirstOf ways Ends H note v R (t ∷ ts) o
    enters_pends t v R ts o fresh on x =
        ⊎_elim
        (λ f. subst (λ y. IsFirstOf ways Ends H note v R (t ∷ ts) y) (sym f.2)
        (found t (t.1 ∷ f.0) (first_goes ways Ends decide last t.1 v [] f.0 fresh on f.1)))
        (λ f. let none : HasNoWalk ways Ends v (t.1 ∷ []) = λ u b. dead_if_tried ways Ends on f.0 b in
        passes t none (of_alike f.1 (dead_all t.1 v none ts)))
        (of_ways (note t.0 t.1) (ways t.1) x)

    -- a thread that rests has matched
    pub matches_pends : (t : H × Pair) (v : List Pair) (R : Option H → Type 0) (ts : List (H × Pair)) (o : Option H) →
        ¬ IsIn t.1 v → Ends t.1 → o ≡ Some (note t.0 t.1) → IsFirstOf ways Ends H note v R (t ∷ ts) o
    matches_pends t v R ts o fresh end e =
        subst (λ y. IsFirstOf ways Ends H note v R (t ∷ ts) y) (sym e)
        (found t (t.1 ∷ []) (first_stops ways Ends decide last t.1 v [] fresh end))

  module _ (decide : (n m : Pair) → (n ≡ m) ⊎ (n ≢ m)) (last : (n m : Pair) → Ends n → ¬ IsIn m (ways n))
      (onward : (n m : Pair) → IsIn m (ways n) → n.1 ≤ m.1)
      (Rests : Pair → Type 0) (moves : (n m : Pair) → Rests n → IsIn m (ways n) → n.1 < m.1) where
    -- what stands at later positions isn't among pairs of earlier ones
    later_free : (at : ℕ) (n : Pair) (p w v : List Pair) → Rests n → at ≤ n.1 → AllUpTo at v →
        IsWalk ways Ends p (ways n) w → (k : Pair) → IsIn k w → ¬ IsIn k v
    later_free at n p w v r here low b k i z =
        let x : at + 1 ≤ k.1 = all_onward ways Ends onward (at + 1) (λ m j. let g : n.1 < m.1 = moves n m r j in omega arith) b k i in
        let y : k.1 ≤ at = low k z in omega arith

    rest_there : (n : Pair) (v : List Pair) → ¬ IsIn n v → AllUpTo n.1 v → Rests n → {w : List Pair} →
        IsWalk ways Ends [] (n ∷ []) w → IsWalk ways Ends v (n ∷ []) w
    rest_there n v fresh low r (stops k here f end) =
        stops k here (⊎_elim (λ e. subst (λ x. ¬ IsIn x v) e fresh) (λ never. absurd never) here) end
    rest_there n v fresh low r (goes {w = w} k here f rest) =
        ⊎_elim (λ e. let rest2 = subst (λ x. IsWalk ways Ends (x ∷ []) (ways x) w) (sym e) rest in
        subst (λ x. IsWalk ways Ends v (n ∷ []) (x ∷ w)) e
        (goes n (inl refl) fresh
        (loosen ways Ends rest2 (n ∷ v)
        (λ j i. λ z. ⊎_elim (λ q. avoids ways Ends rest2 j i (inl q))
        (λ q. later_free n.1 n (n ∷ []) w v r (omega arith) low rest2 j i q) z))))
        (λ never. absurd never) here

    -- A thread rests.
    pub rests_pends : (rs : List (H × Pair)) (t : H × Pair) (v : List Pair) (best : Option H) (ts : List (H × Pair)) (o : Option H) →
        ¬ IsIn t.1 v → AllUpTo t.1.1 v → Rests t.1 →
        Pends ways Ends H note (rs ++ t ∷ []) (t.1 ∷ v) ts best o → Pends ways Ends H note rs v (t ∷ ts) best o
    rests_pends rs t v best ts o fresh low r x = of_rest (λ q y. here q y) (of_append rs x)
      where
        alike : Alike ways Ends [] v (t.1 ∷ [])
        alike = record {
          there = λ w b. rest_there t.1 v fresh low r b;
          back = λ w b. loosen ways Ends b [] (λ k i. λ z. z);
        }

        here : (q : Option H) → IsFirstOf ways Ends H note [] (λ p. IsFirstOf ways Ends H note (t.1 ∷ v) (λ z. z ≡ best) ts p) (t ∷ []) q →
            IsFirstOf ways Ends H note v (λ z. z ≡ best) (t ∷ ts) q
        here q y =
            ⊎_elim
            (λ f. subst (λ z. IsFirstOf ways Ends H note v (λ z. z ≡ best) (t ∷ ts) z) (sym f.2)
            (found t f.0 (first_alike ways Ends [] v (t.1 ∷ []) f.0 alike f.1)))
            (λ f. let none = none_alike ways Ends [] v (t.1 ∷ []) alike f.0 in
            passes t none (of_alike (of_none f.1) (dead_all t.1 v none ts)))
            (of_one y)

    -- A thread of an earlier position steps on.
    pub steps_pends : (at : ℕ) (t : H × Pair) (v : List Pair) (R : Option H → Type 0) (ts : List (H × Pair)) (o : Option H) →
        ¬ IsIn t.1 v → Rests t.1 → ¬ Ends t.1 →
        IsFirstOf ways Ends H note v R (threads (note t.0 t.1) (ways t.1) ++ ts) o → IsFirstOf ways Ends H note v R (t ∷ ts) o
    steps_pends at t v R ts o fresh r on x =
        ⊎_elim
        (λ f. subst (λ y. IsFirstOf ways Ends H note v R (t ∷ ts) y) (sym f.2)
        (found t (t.1 ∷ f.0) (first_goes ways Ends decide last t.1 v [] f.0 fresh on
        (first_alike ways Ends v (t.1 ∷ v) (ways t.1) f.0 alike f.1))))
        (λ f. passes t (λ u b. dead_if_tried ways Ends on (none_alike ways Ends v (t.1 ∷ v) (ways t.1) alike f.0) b) f.1)
        (of_ways decide last (note t.0 t.1) (ways t.1) x)
      where
        alike : Alike ways Ends v (t.1 ∷ v) (ways t.1)
        alike = record {
          there = λ w b. loosen ways Ends b (t.1 ∷ v) (λ k i. λ z. ⊎_elim
              (λ e. let g : t.1.1 + 1 ≤ k.1 = all_onward ways Ends onward (t.1.1 + 1)
              (λ m j. let l : t.1.1 < m.1 = moves t.1 m r j in omega arith) b k i in
              let same : t.1.1 ≡ k.1 = ap (λ y. y.1) e in omega arith)
              (λ q. avoids ways Ends b k i q) z);
          back = λ w b. fewer_passed ways Ends t.1 b;
        }

    past_all : (at : ℕ) (v : List Pair) → AllUpTo at v → (ts : List (H × Pair)) → AllPast at ts → AllAlike [] v ts
    past_all at v low [] high = tt
    past_all at v low (t ∷ ts) high =
        let a = past_alike ways Ends onward at v (t.1 ∷ []) low (λ k i. ⊎_elim (λ e. subst (λ x. at < x.1) e high.0) (λ never. absurd never) i) in
        (record { there = a.back; back = a.there }, past_all at v low ts high.1)

    -- All threads that rest go on to the next position.
    pub turns_pends : (at : ℕ) (rs : List (H × Pair)) (v : List Pair) (best : Option H) (ts : List (H × Pair)) (o : Option H) →
        AllUpTo at v → AllPast at ts →
        Pends ways Ends H note [] [] (rs ++ ts) best o → Pends ways Ends H note rs v ts best o
    turns_pends at rs v best ts o low high x =
        of_rest (λ q y. of_alike y (past_all at v low ts high)) (of_append rs (of_none x))
