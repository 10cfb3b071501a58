-- What the entering of a pair does to the patterns that pairs lead to.
use Rattle.std.proofs.Common.{◌≡◌, ◌↔◌, ℕ, ◌<◌, ◌≤◌, ◌⊎◌, Bool, true, false, true≢false, List, [], ◌∷◌, ◌++◌, length, set, inl, inr, ⊎_elim, sym, subst, ap, ◌∙◌, refl, IsTrue}
use Rattle.rc_pattern_set.specs.Sets.{Has}
use Rattle.rc_pattern_set.proofs.SetLemmas.{has_set, set_has, set_keeps}
use Rattle.rc_walks.specs.Walks.{Pair, IsIn, IsWalk, stops, goes}
use Rattle.rc_walks.proofs.CutLemmas.{avoids, loosen, from_other, is_in_or_not}
use Rattle.rc_walks.proofs.StackLemmas.{dead_if_passed}
use Rattle.rc_walks.proofs.ThreadLemmas.{AllUpTo, Alike, past_alike, fewer_passed}
use Rattle.rc_program.specs.Program.{accept, place_at}
use Rattle.rc_program.specs.Answer.{last_of, pattern_at}
use Rattle.rc_program.proofs.WayLemmas.{same_pair, ways_onward}
use Rattle.rc_program.proofs.AnswerLemmas.{last_of_more}
use Rattle.rc_pikevm.specs.Sights.{Sight, ends, next_of}
use Rattle.rc_pikevm.proofs.SightLemmas.{last_pair}
use Rattle.rc_pikevm.specs.Marking.{LeadsToPattern, SomeLeads}

module _ (s : Sight) (p : ℕ) where
  abbrev Ends : Pair → Type 0
  Ends n = IsTrue (ends s n)

  abbrev Leads : List Pair → Pair → Type 0
  Leads v n = LeadsToPattern s v n p

  abbrev Some : List Pair → List Pair → Type 0
  Some v ns = SomeLeads s v ns p

  -- the same walk by other pairs passed
  respelled : (v u : List Pair) (n : Pair) → ((w : List Pair) → IsWalk (next_of s) Ends v (n ∷ []) w → IsWalk (next_of s) Ends u (n ∷ []) w) →
      Leads v n → Leads u n
  respelled v u n f h = record { walk = h.walk; is_walk = f h.walk h.is_walk; pattern = h.pattern }

  -- a walk that passes n is a walk from there on
  from_last : (n : Pair) {q f w : List Pair} → IsWalk (next_of s) Ends q f w → IsIn n w →
      (u : List Pair) × IsWalk (next_of s) Ends q (n ∷ []) u × (last_of u ≡ last_of w)
  from_last n (stops k here fresh stop) h =
      ⊎_elim (λ q. (k ∷ [], stops k (inl (sym q)) fresh stop, refl)) (λ never. absurd never) h
  from_last n {q = q} (goes {w = w} k here fresh rest) h =
      ⊎_elim (λ e. (k ∷ w, goes k (inl (sym e)) fresh rest, refl))
      (λ i. let r = from_last n rest i in
      (r.0, loosen (next_of s) Ends r.1 q (λ m i. λ z. avoids (next_of s) Ends r.1 m i (inr z)), r.2 ∙ sym (last_of_more (next_of s) Ends k rest))) h

  -- a walk from some pairs is one from the first that it enters
  from_first : (q f w : List Pair) → IsWalk (next_of s) Ends q f w → (k : Pair) × IsIn k f × IsWalk (next_of s) Ends q (k ∷ []) w
  from_first q f w (stops k here fresh stop) = (k, here, stops k (inl refl) fresh stop)
  from_first q f w (goes k here fresh rest) = (k, here, goes k (inl refl) fresh rest)

  pub some_left : (v ns ks : List Pair) → Some v ns → Some v (ns ++ ks)
  some_left v [] ks h = absurd h
  some_left v (n ∷ ns) ks h = ⊎_elim (λ a. inl a) (λ b. inr (some_left v ns ks b)) h

  pub some_right : (v ns ks : List Pair) → Some v ks → Some v (ns ++ ks)
  some_right v [] ks h = h
  some_right v (n ∷ ns) ks h = inr (some_right v ns ks h)

  pub some_parts : (v ns ks : List Pair) → Some v (ns ++ ks) → Some v ns ⊎ Some v ks
  some_parts v [] ks h = inr h
  some_parts v (n ∷ ns) ks h = ⊎_elim (λ a. inl (inl a)) (λ b. ⊎_elim (λ x. inl (inr x)) (λ y. inr y) (some_parts v ns ks b)) h

  module _ (n : Pair) (v : List Pair) where
    fewer : (ks : List Pair) → Some (n ∷ v) ks → Some v ks
    fewer [] h = h
    fewer (k ∷ ks) h = ⊎_elim (λ a. inl (respelled (n ∷ v) v k (λ w b. fewer_passed (next_of s) Ends n b) a)) (λ b. inr (fewer ks b)) h

    -- What a pair leads to it leads to past n, unless n does.
    keeps_off : (k : Pair) → Leads v k → Leads (n ∷ v) k ⊎ Leads v n
    keeps_off k h =
        ⊎_elim
        (λ i. let u = from_last n h.is_walk i in
        inr (record { walk = u.0; is_walk = u.1; pattern = ap (λ (q : Pair). place_at s.places q.0) u.2 ∙ h.pattern }))
        (λ no. inl (record {
          walk = h.walk;
          is_walk = loosen (next_of s) Ends h.is_walk (n ∷ v)
              (λ m i. λ z. ⊎_elim (λ e. no (subst (λ x. IsIn x h.walk) (sym e) i)) (λ q. avoids (next_of s) Ends h.is_walk m i q) z);
          pattern = h.pattern;
        }))
        (is_in_or_not (next_of s) Ends same_pair n h.walk)

    all_keep_off : (ks : List Pair) → Some v ks → Some (n ∷ v) ks ⊎ Leads v n
    all_keep_off [] h = absurd h
    all_keep_off (k ∷ ks) h =
        ⊎_elim (λ a. ⊎_elim (λ x. inl (inl x)) (λ y. inr y) (keeps_off k a))
        (λ b. ⊎_elim (λ x. inl (inr x)) (λ y. inr y) (all_keep_off ks b)) h

    one_of : (k : Pair) (ks : List Pair) → IsIn k ks → Leads (n ∷ v) k → Some (n ∷ v) ks
    one_of k [] i h = absurd i
    one_of k (j ∷ ks) i h = ⊎_elim (λ e. inl (subst (λ x. Leads (n ∷ v) x) (sym e) h)) (λ q. inr (one_of k ks q h)) i

    -- the walk's way on from n
    goes_by : {w : List Pair} → IsWalk (next_of s) Ends v (n ∷ []) w → ends s n ≡ false → place_at s.places (last_of w).0 ≡ accept p →
        Some (n ∷ v) (next_of s n)
    goes_by (stops k here fresh stop) on b =
        ⊎_elim (λ e. absurd (true≢false (sym (subst Ends (sym e) stop) ∙ on))) (λ never. absurd never) here
    goes_by (goes {w = w} k here fresh rest) on b =
        ⊎_elim
        (λ e. let rest2 : IsWalk (next_of s) Ends (n ∷ v) (next_of s n) w = subst (λ x. IsWalk (next_of s) Ends (x ∷ v) (next_of s x) w) (sym e) rest in
        let last = last_of_more (next_of s) Ends k rest in
        let r = from_first (n ∷ v) (next_of s n) w rest2 in
        one_of r.0 (next_of s n) r.1 (record { walk = w; is_walk = r.2; pattern = ap (λ (q : Pair). place_at s.places q.0) (sym last) ∙ b }))
        (λ never. absurd never) here

    leads_on : ends s n ≡ false → Leads v n → Some (n ∷ v) (next_of s n)
    leads_on on h = goes_by h.is_walk on h.pattern

    leads_back : (k : Pair) → IsIn k (next_of s n) → ¬ IsIn n v → Leads (n ∷ v) k → Leads v n
    leads_back k i fresh h =
        let rest = from_other (next_of s) Ends k (next_of s n) i h.is_walk in
        let last = last_of_more (next_of s) Ends n rest in
        record { walk = n ∷ h.walk; is_walk = goes n (inl refl) fresh rest; pattern = ap (λ (q : Pair). place_at s.places q.0) last ∙ h.pattern }

    some_back : (ks : List Pair) → ((k : Pair) → IsIn k ks → IsIn k (next_of s n)) → ¬ IsIn n v → Some (n ∷ v) ks → Leads v n
    some_back [] all fresh h = absurd h
    some_back (k ∷ ks) all fresh h =
        ⊎_elim (λ a. leads_back k (all k (inl refl)) fresh a) (λ b. some_back ks (λ j i. all j (inr i)) fresh b) h

    -- where a walk may end, it goes no further
    ended_at : {w : List Pair} → IsWalk (next_of s) Ends v (n ∷ []) w → Ends n → last_of w ≡ n
    ended_at (stops k here fresh stop) end = ⊎_elim (λ e. sym e) (λ never. absurd never) here
    ended_at (goes k here fresh rest) end =
        ⊎_elim (λ e. let r = from_first _ _ _ rest in absurd (last_pair s n r.0 end (subst (λ x. IsIn r.0 (next_of s x)) (sym e) r.1)))
        (λ never. absurd never) here

    -- a pair is entered where no walk ends
    pub enters_same : (ts : List Pair) → ¬ IsIn n v → ends s n ≡ false → Some v (n ∷ ts) ↔ Some (n ∷ v) (next_of s n ++ ts)
    enters_same ts fresh on = (
      λ h. ⊎_elim (λ a. on_by a)
          (λ b. ⊎_elim (λ x. some_right (n ∷ v) (next_of s n) ts x) (λ x. on_by x) (all_keep_off ts b)) h,
      λ h. ⊎_elim (λ a. inl (some_back (next_of s n) (λ k i. i) fresh a)) (λ b. inr (fewer ts b)) (some_parts (n ∷ v) (next_of s n) ts h),
    )
      where
        on_by : Leads v n → Some (n ∷ v) (next_of s n ++ ts)
        on_by a = some_left (n ∷ v) (next_of s n) ts (leads_on on a)

    -- where no walk ends, the ways out lead to what the pair leads to
    pub forks_same : (ts : List Pair) → ¬ IsIn n v → ends s n ≡ false → SomeLeads s v (n ∷ ts) p ↔ SomeLeads s v (next_of s n ++ ts) p
    forks_same ts fresh on = (
      λ h. ⊎_elim (λ x. some_left v (next_of s n) ts (fewer (next_of s n) (leads_on on x))) (λ y. some_right v (next_of s n) ts y) h,
      λ h. ⊎_elim (λ x. inl (⊎_elim (λ y. some_back (next_of s n) (λ k i. i) fresh y) (λ y. y) (all_keep_off (next_of s n) x))) (λ y. inr y)
          (some_parts v (next_of s n) ts h),
    )

    -- of the ways out of n, that to a alone leads to a match of the pattern
    pub way_same : (a : Pair) (ts : List Pair) → ¬ IsIn n v → ends s n ≡ false → IsIn a (next_of s n) →
        (SomeLeads s (n ∷ v) (next_of s n) p → LeadsToPattern s (n ∷ v) a p) → SomeLeads s v (n ∷ ts) p ↔ SomeLeads s v (a ∷ ts) p
    way_same a ts fresh on i only = (
      λ h. ⊎_elim (λ x. inl (respelled (n ∷ v) v a (λ w b. fewer_passed (next_of s) Ends n b) (only (leads_on on x)))) (λ y. inr y) h,
      λ h. ⊎_elim (λ x. inl (⊎_elim (λ y. leads_back a i fresh y) (λ y. y) (keeps_off a x))) (λ y. inr y) h,
    )

    -- a walk of the pattern q ends
    pub matches_same : (q : ℕ) (marks : List Bool) (ts : List Pair) → ¬ IsIn n v → Ends n → place_at s.places n.0 ≡ accept q → p < length marks →
        (Some v (n ∷ ts) ⊎ Has marks p) ↔ (Some (n ∷ v) ts ⊎ Has (set marks q true) p)
    matches_same q marks ts fresh end is low = (
      λ h. ⊎_elim
          (λ a. ⊎_elim (λ x. inr (here x)) (λ x. ⊎_elim (λ y. inl y) (λ y. inr (here y)) (all_keep_off ts x)) a)
          (λ b. inr (set_keeps marks q p b)) h,
      λ h. ⊎_elim (λ a. inl (inr (fewer ts a))) (λ b. ⊎_elim (λ e. inl (inl (leads e))) (λ k. inr k) (has_set marks q p b)) h,
    )
      where
        leads : p ≡ q → Leads v n
        leads e = record { walk = n ∷ []; is_walk = stops n (inl refl) fresh end; pattern = is ∙ ap accept (sym e) }

        here : Leads v n → Has (set marks q true) p
        here h =
            let e : p ≡ q = ap pattern_at (sym h.pattern ∙ ap (λ (k : Pair). place_at s.places k.0) (ended_at h.is_walk end) ∙ is) in
            subst (λ x. Has (set marks x true) p) e (set_has marks p low)

  -- the pair was entered already
  pub skips_same : (n : Pair) (v ts : List Pair) → IsIn n v → Some v (n ∷ ts) ↔ Some v ts
  skips_same n v ts i = (λ h. ⊎_elim (λ a. absurd (dead_if_passed (next_of s) Ends i a.is_walk)) (λ b. b) h, λ h. inr h)

  onward : (n m : Pair) → IsIn m (next_of s n) → n.1 ≤ m.1
  onward n m i = ways_onward s.places s.text s.hi n m i

  -- pairs passed at earlier positions make no difference
  past : (at : ℕ) (v : List Pair) (n : Pair) → AllUpTo at v → at < n.1 → Alike (next_of s) Ends v [] (n ∷ [])
  past at v n low later =
      past_alike (next_of s) Ends onward at v (n ∷ []) low (λ k i. ⊎_elim (λ e. subst (λ (m : Pair). at < m.1) e later) (λ never. absurd never) i)

  -- the pairs are at later positions
  abbrev pub AllLater : ℕ → List Pair → Type 0
  AllLater at [] = Unit {0}
  AllLater at (n ∷ ns) = (at < n.1) × AllLater at ns

  pub later_same : (at : ℕ) (v ts : List Pair) → AllUpTo at v → AllLater at ts → Some v ts ↔ Some [] ts
  later_same at v [] low all = (λ h. h, λ h. h)
  later_same at v (n ∷ ts) low all =
      let r = later_same at v ts low all.1 in (
        λ h. ⊎_elim (λ a. inl (respelled v [] n (past at v n low all.0).there a)) (λ b. inr (r.0 b)) h,
        λ h. ⊎_elim (λ a. inl (respelled [] v n (past at v n low all.0).back a)) (λ b. inr (r.1 b)) h,
      )
