-- What a runner's entering of a pair does to the greatest match on offer.
use Rattle.std.proofs.Common.{◌≡◌, ℕ, ◌<◌, ◌≤◌, ◌⊎◌, List, [], ◌∷◌, ◌++◌, map, inl, inr, ⊎_elim, sym, subst, ap, ap₂, ◌∙◌, refl, arith, false, true≢false, IsTrue, Option, Some, None, option_map}
use Rattle.std.proofs.lemmas.Bool.{cases_lt}
use Rattle.std.proofs.lemmas.Option.{none-some, same_Some}
use Rattle.rc_text.specs.Found.{Found}
use Rattle.rc_walks.specs.Walks.{Pair, IsIn, IsWalk, stops, goes}
use Rattle.rc_walks.proofs.CutLemmas.{avoids, loosen, from_other, is_in_or_not}
use Rattle.rc_walks.proofs.StackLemmas.{dead_if_passed}
use Rattle.rc_walks.proofs.ThreadLemmas.{AllUpTo, Alike, past_alike, fewer_passed}
use Rattle.rc_program.specs.Program.{accept, place_at}
use Rattle.rc_program.specs.Answer.{last_of, pattern_at}
use Rattle.rc_pikevm.specs.Sights.{Sight, ends, next_of}
use Rattle.rc_program.specs.Greatest.{IsNoGreater}
use Rattle.rc_program.proofs.WayLemmas.{same_pair, ways_onward}
use Rattle.rc_program.proofs.AnswerLemmas.{last_of_more}
use Rattle.rc_pikevm.proofs.SightLemmas.{last_pair}
use Rattle.rc_pikevm.specs.Spread.{Runner, LeadsToMatch, SomeSpells, span_of, IsTop, BeginFrom, IsGreater}
use Rattle.rc_pikevm.specs.declared.pass.Ending.{Ending}

pub no_greater_self : (m : Found) → IsNoGreater m m
no_greater_self m = inr (refl, inr (refl, omega arith))

pub no_greater_then : (a b c : Found) → IsNoGreater a b → IsNoGreater b c → IsNoGreater a c
no_greater_then a b c h k =
    ⊎_elim
    (λ l. inl (⊎_elim (λ l2. omega (arith, l, l2)) (λ e2. omega (arith, l, e2.0)) k))
    (λ e. ⊎_elim
    (λ l2. inl (omega (arith, e.0, l2)))
    (λ e2. inr (omega (arith, e.0, e2.0), later e.1 e2.1)) k) h
  where
    later : (b.start < a.start) ⊎ ((a.start ≡ b.start) × (b.pattern ≤ a.pattern)) →
        (c.start < b.start) ⊎ ((b.start ≡ c.start) × (c.pattern ≤ b.pattern)) →
        (c.start < a.start) ⊎ ((a.start ≡ c.start) × (c.pattern ≤ a.pattern))
    later x y =
        ⊎_elim
        (λ l. inl (⊎_elim (λ l2. omega (arith, l, l2)) (λ e2. omega (arith, l, e2.0)) y))
        (λ e. ⊎_elim (λ l2. inl (omega (arith, e.0, l2))) (λ e2. inr (omega (arith, e.0, e2.0), omega (arith, e.1, e2.1))) y) x

-- B has the greatest of A, and nothing that A lacks
pub record Narrows (A B : Found → Type 0) : Type 0 where
  pub fewer : (m : Found) → B m → A m
  pub enough : (m : Found) → A m → (n : Found) × B n × IsNoGreater m n

pub top_back : (A B : Found → Type 0) (o : Option Found) → Narrows A B → IsTop B o → IsTop A o
top_back A B None h none = λ m a. let r = h.enough m a in none r.0 r.1
top_back A B (Some m) h top = (h.fewer m top.0, λ n a. let r = h.enough n a in no_greater_then n r.0 m r.2 (top.1 r.0 r.1))

module _ (s : Sight) where
  abbrev Ends : Pair → Type 0
  Ends n = IsTrue (ends s n)

  -- a walk that passes n is a walk from there on
  from_last : (n : Pair) {p f w : List Pair} → IsWalk (next_of s) Ends p f w → IsIn n w →
      (u : List Pair) × IsWalk (next_of s) Ends p (n ∷ []) u × (last_of u ≡ last_of w)
  from_last n (stops k here fresh stop) h =
      ⊎_elim (λ q. (k ∷ [], stops k (inl (sym q)) fresh stop, refl)) (λ never. absurd never) h
  from_last n {p = p} (goes {w = w} k here fresh rest) h =
      ⊎_elim (λ q. (k ∷ w, goes k (inl (sym q)) fresh rest, refl))
      (λ q. let r = from_last n rest q in
      (r.0, loosen (next_of s) Ends r.1 p (λ m i. λ z. avoids (next_of s) Ends r.1 m i (inr z)), r.2 ∙ sym (last_of_more (next_of s) Ends k rest))) h

  -- the same walk by other pairs passed
  respelled : (v u : List Pair) (r : Runner) (m : Found) → ((w : List Pair) → IsWalk (next_of s) Ends v (r.1 ∷ []) w → IsWalk (next_of s) Ends u (r.1 ∷ []) w) →
      LeadsToMatch s v r m → LeadsToMatch s u r m
  respelled v u r m f h = record { start = h.start; walk = h.walk; is_walk = f h.walk h.is_walk; pattern = h.pattern; position = h.position }

  pub fewer_spells : (n : Pair) (v : List Pair) (rs : List Runner) (m : Found) → SomeSpells s (n ∷ v) rs m → SomeSpells s v rs m
  fewer_spells n v [] m h = h
  fewer_spells n v (r ∷ rs) m h =
      ⊎_elim (λ a. inl (respelled (n ∷ v) v r m (λ w b. fewer_passed (next_of s) Ends n b) a)) (λ b. inr (fewer_spells n v rs m b)) h

  -- a match of the runner c at n that is as great
  abbrev As : List Pair → Runner → Found → Type 0
  As v r m = (k : Found) × LeadsToMatch s v r k × IsNoGreater m k

  -- What a runner spells it spells past n, unless one that set out no later spells as much from n.
  keeps_off : (c : ℕ) (n : Pair) (v : List Pair) (r : Runner) (m : Found) → c ≤ r.0 → LeadsToMatch s v r m → LeadsToMatch s (n ∷ v) r m ⊎ As v (c, n) m
  keeps_off c n v r m low h =
      ⊎_elim
      (λ i. let u = from_last n h.is_walk i in
      let k : Found = record { pattern = m.pattern; start = c; end = m.end } in
      inr (
        k,
        record {
          start = refl;
          walk = u.0;
          is_walk = u.1;
          pattern = ap (λ (q : Pair). place_at s.places q.0) u.2 ∙ h.pattern;
          position = ap (λ (q : Pair). q.1) u.2 ∙ h.position;
        },
        inr (refl, ⊎_elim (λ l. inl l) (λ ge. inr (omega (arith, ge, low, h.start), omega arith)) (cases_lt c m.start)),
      ))
      (λ no. inl (record {
        start = h.start;
        walk = h.walk;
        is_walk = loosen (next_of s) Ends h.is_walk (n ∷ v)
            (λ k i. λ z. ⊎_elim (λ e. no (subst (λ x. IsIn x h.walk) (sym e) i)) (λ q. avoids (next_of s) Ends h.is_walk k i q) z);
        pattern = h.pattern;
        position = h.position;
      }))
      (is_in_or_not (next_of s) Ends same_pair n h.walk)

  all_keep_off : (c : ℕ) (n : Pair) (v : List Pair) (rs : List Runner) (m : Found) → BeginFrom c rs → SomeSpells s v rs m →
      SomeSpells s (n ∷ v) rs m ⊎ As v (c, n) m
  all_keep_off c n v [] m low h = inl h
  all_keep_off c n v (r ∷ rs) m low h =
      ⊎_elim
      (λ a. ⊎_elim (λ x. inl (inl x)) (λ y. inr y) (keeps_off c n v r m low.0 a))
      (λ b. ⊎_elim (λ x. inl (inr x)) (λ y. inr y) (all_keep_off c n v rs m low.1 b)) h

  abbrev pub by_ways : ℕ → List Pair → List Runner
  by_ways c ks = map (λ k. (c, k)) ks

  pub some_left : (v : List Pair) (rs qs : List Runner) (m : Found) → SomeSpells s v rs m → SomeSpells s v (rs ++ qs) m
  some_left v [] qs m h = absurd h
  some_left v (r ∷ rs) qs m h = ⊎_elim (λ a. inl a) (λ b. inr (some_left v rs qs m b)) h

  pub some_right : (v : List Pair) (rs qs : List Runner) (m : Found) → SomeSpells s v qs m → SomeSpells s v (rs ++ qs) m
  some_right v [] qs m h = h
  some_right v (r ∷ rs) qs m h = inr (some_right v rs qs m h)

  pub some_parts : (v : List Pair) (rs qs : List Runner) (m : Found) → SomeSpells s v (rs ++ qs) m → SomeSpells s v rs m ⊎ SomeSpells s v qs m
  some_parts v [] qs m h = inr h
  some_parts v (r ∷ rs) qs m h =
      ⊎_elim (λ a. inl (inl a)) (λ b. ⊎_elim (λ x. inl (inr x)) (λ y. inr y) (some_parts v rs qs m b)) h

  one_of : (c : ℕ) (v ks : List Pair) (k : Pair) (m : Found) → IsIn k ks → LeadsToMatch s v (c, k) m → SomeSpells s v (by_ways c ks) m
  one_of c v [] k m i h = absurd i
  one_of c v (j ∷ ks) k m i h =
      ⊎_elim (λ e. inl (subst (λ x. LeadsToMatch s v (c, x) m) (sym e) h)) (λ q. inr (one_of c v ks k m q h)) i

  -- a walk from some pairs is one from the first that it enters
  from_first : (p f w : List Pair) → IsWalk (next_of s) Ends p f w → (k : Pair) × IsIn k f × IsWalk (next_of s) Ends p (k ∷ []) w
  from_first p f w (stops k here fresh stop) = (k, here, stops k (inl refl) fresh stop)
  from_first p f w (goes k here fresh rest) = (k, here, goes k (inl refl) fresh rest)

  module _ (c : ℕ) (n : Pair) (v : List Pair) where
    -- the walk's way on from n
    goes_by : (m : Found) {w : List Pair} → IsWalk (next_of s) Ends v (n ∷ []) w → ends s n ≡ false → m.start ≡ c →
        place_at s.places (last_of w).0 ≡ accept m.pattern → (last_of w).1 ≡ m.end → SomeSpells s (n ∷ v) (by_ways c (next_of s n)) m
    goes_by m (stops k here fresh stop) on a b d =
        ⊎_elim (λ e. absurd (true≢false (sym (subst Ends (sym e) stop) ∙ on))) (λ never. absurd never) here
    goes_by m (goes {w = w} k here fresh rest) on a b d =
        ⊎_elim
        (λ e. let rest2 : IsWalk (next_of s) Ends (n ∷ v) (next_of s n) w = subst (λ x. IsWalk (next_of s) Ends (x ∷ v) (next_of s x) w) (sym e) rest in
        let last = last_of_more (next_of s) Ends k rest in
        let r = from_first (n ∷ v) (next_of s n) w rest2 in
        one_of c (n ∷ v) (next_of s n) r.0 m r.1 (record {
          start = a;
          walk = w;
          is_walk = r.2;
          pattern = ap (λ (q : Pair). place_at s.places q.0) (sym last) ∙ b;
          position = ap (λ (q : Pair). q.1) (sym last) ∙ d;
        }))
        (λ never. absurd never) here

    pub spells_on : (m : Found) → ends s n ≡ false → LeadsToMatch s v (c, n) m → SomeSpells s (n ∷ v) (by_ways c (next_of s n)) m
    spells_on m on h = goes_by m h.is_walk on h.start h.pattern h.position

    spells_back : (k : Pair) (m : Found) → IsIn k (next_of s n) → ¬ IsIn n v → LeadsToMatch s (n ∷ v) (c, k) m → LeadsToMatch s v (c, n) m
    spells_back k m i fresh h =
        let rest = from_other (next_of s) Ends k (next_of s n) i h.is_walk in
        let last = last_of_more (next_of s) Ends n rest in
        record {
          start = h.start;
          walk = n ∷ h.walk;
          is_walk = goes n (inl refl) fresh rest;
          pattern = ap (λ (q : Pair). place_at s.places q.0) last ∙ h.pattern;
          position = ap (λ (q : Pair). q.1) last ∙ h.position;
        }

    some_back : (ks : List Pair) (m : Found) → ((k : Pair) → IsIn k ks → IsIn k (next_of s n)) → ¬ IsIn n v → SomeSpells s (n ∷ v) (by_ways c ks) m →
        LeadsToMatch s v (c, n) m
    some_back [] m all fresh h = absurd h
    some_back (k ∷ ks) m all fresh h =
        ⊎_elim (λ a. spells_back k m (all k (inl refl)) fresh a) (λ b. some_back ks m (λ j i. all j (inr i)) fresh b) h

    -- where a walk may end, it goes no further
    ended_at : (m : Found) {w : List Pair} → IsWalk (next_of s) Ends v (n ∷ []) w → Ends n → last_of w ≡ n
    ended_at m (stops k here fresh stop) end = ⊎_elim (λ e. sym e) (λ never. absurd never) here
    ended_at m (goes k here fresh rest) end =
        ⊎_elim (λ e. let r = from_first _ _ _ rest in absurd (last_pair s n r.0 end (subst (λ x. IsIn r.0 (next_of s x)) (sym e) r.1)))
        (λ never. absurd never) here

    pub spells_here : (m : Found) (p : ℕ) → Ends n → place_at s.places n.0 ≡ accept p → LeadsToMatch s v (c, n) m →
        m ≡ (let r : Found = record { pattern = p; start = c; end = n.1 } in r)
    spells_here m p end is h =
        let last = ended_at m h.is_walk end in
        let pattern : m.pattern ≡ p = ap pattern_at (sym h.pattern ∙ ap (λ (q : Pair). place_at s.places q.0) last ∙ is) in
        let stop : m.end ≡ n.1 = sym h.position ∙ ap (λ (q : Pair). q.1) last in
        same m (record { pattern = p; start = c; end = n.1 }) pattern h.start stop
      where
        same : (a b : Found) → a.pattern ≡ b.pattern → a.start ≡ b.start → a.end ≡ b.end → a ≡ b
        same a b e f g = ap₂ (λ p (q : ℕ × ℕ). let r : Found = record { pattern = p; start = q.0; end = q.1 } in r) e (ap₂ (λ x y. (x, y)) f g)

    here_spells : (p : ℕ) → ¬ IsIn n v → Ends n → place_at s.places n.0 ≡ accept p → LeadsToMatch s v (c, n) (record { pattern = p; start = c; end = n.1 })
    here_spells p fresh end is = record { start = refl; walk = n ∷ []; is_walk = stops n (inl refl) fresh end; pattern = is; position = refl }

    -- a pair is entered where no walk ends
    pub enters_narrow : (R E : Found → Type 0) (ts : List Runner) → ¬ IsIn n v → ends s n ≡ false → BeginFrom c ts →
        Narrows (λ m. R m ⊎ (SomeSpells s v ((c, n) ∷ ts) m ⊎ E m)) (λ m. R m ⊎ (SomeSpells s (n ∷ v) (by_ways c (next_of s n) ++ ts) m ⊎ E m))
    enters_narrow R E ts fresh on low = record {
      fewer = λ m h. ⊎_elim (λ a. inl a) (λ b. inr (⊎_elim
          (λ x. inl (⊎_elim (λ y. inl (some_back (next_of s n) m (λ k i. i) fresh y)) (λ y. inr (fewer_spells n v ts m y))
          (some_parts (n ∷ v) (by_ways c (next_of s n)) ts m x))) (λ x. inr x) b)) h;
      enough = λ m h. ⊎_elim (λ a. (m, inl a, no_greater_self m)) (λ b. ⊎_elim
          (λ x. ⊎_elim (λ y. (m, inr (inl (on_by m y)), no_greater_self m))
          (λ y. ⊎_elim (λ z. (m, inr (inl (some_right (n ∷ v) (by_ways c (next_of s n)) ts m z)), no_greater_self m))
          (λ z. (z.0, inr (inl (on_by z.0 z.1)), z.2)) (all_keep_off c n v ts m low y)) x)
          (λ x. (m, inr (inr x), no_greater_self m)) b) h;
    }
      where
        on_by : (m : Found) → LeadsToMatch s v (c, n) m → SomeSpells s (n ∷ v) (by_ways c (next_of s n) ++ ts) m
        on_by m y = some_left (n ∷ v) (by_ways c (next_of s n)) ts m (spells_on m on y)

    -- of the ways out of n, that to a alone leads to a match
    pub way_narrow : (R E : Found → Type 0) (a : Pair) (ts : List Runner) → ¬ IsIn n v → ends s n ≡ false → IsIn a (next_of s n) →
        ((m : Found) → SomeSpells s (n ∷ v) (by_ways c (next_of s n)) m → LeadsToMatch s (n ∷ v) (c, a) m) →
        Narrows (λ m. R m ⊎ (SomeSpells s v ((c, n) ∷ ts) m ⊎ E m)) (λ m. R m ⊎ (SomeSpells s v ((c, a) ∷ ts) m ⊎ E m))
    way_narrow R E a ts fresh on i only = record {
      fewer = λ m h. ⊎_elim (λ x. inl x) (λ x. inr (⊎_elim (λ y. inl (⊎_elim (λ z. inl (back m z)) (λ z. inr z) y)) (λ y. inr y) x)) h;
      enough = λ m h. (
        m,
        ⊎_elim (λ x. inl x) (λ x. inr (⊎_elim
            (λ y. inl (⊎_elim (λ z. inl (respelled (n ∷ v) v (c, a) m (λ w b. fewer_passed (next_of s) Ends n b) (only m (spells_on m on z))))
            (λ z. inr z) y)) (λ y. inr y) x)) h,
        no_greater_self m,
      );
    }
      where
        back : (m : Found) → LeadsToMatch s v (c, a) m → LeadsToMatch s v (c, n) m
        back m h =
            ⊎_elim
            (λ j. let u = from_last n h.is_walk j in record {
              start = h.start;
              walk = u.0;
              is_walk = u.1;
              pattern = ap (λ (q : Pair). place_at s.places q.0) u.2 ∙ h.pattern;
              position = ap (λ (q : Pair). q.1) u.2 ∙ h.position;
            })
            (λ no. spells_back a m i fresh (record {
              start = h.start;
              walk = h.walk;
              is_walk = loosen (next_of s) Ends h.is_walk (n ∷ v)
                  (λ k i. λ z. ⊎_elim (λ e. no (subst (λ x. IsIn x h.walk) (sym e) i)) (λ q. avoids (next_of s) Ends h.is_walk k i q) z);
              pattern = h.pattern;
              position = h.position;
            }))
            (is_in_or_not (next_of s) Ends same_pair n h.walk)

    -- a walk ends
    pub matches_narrow : (R : Found → Type 0) (best : Option Ending) (new result : Ending) (ts : List Runner) → ¬ IsIn n v → Ends n →
        place_at s.places n.0 ≡ accept new.pattern → new.start ≡ c → new.end ≡ n.1 → IsGreater best new result → BeginFrom c ts →
        Narrows (λ m. R m ⊎ (SomeSpells s v ((c, n) ∷ ts) m ⊎ (option_map span_of best ≡ Some m)))
        (λ m. R m ⊎ (SomeSpells s (n ∷ v) ts m ⊎ (option_map span_of (Some result) ≡ Some m)))
    matches_narrow R best new result ts fresh end is start stop g low = record {
      fewer = λ m h. ⊎_elim (λ a. inl a) (λ b. inr (⊎_elim
          (λ x. inl (inr (fewer_spells n v ts m x))) (λ e. from_one m g.one e) b)) h;
      enough = λ m h. ⊎_elim (λ a. (m, inl a, no_greater_self m)) (λ b. ⊎_elim
          (λ x. ⊎_elim (λ y. (span_of result, inr (inr refl), by_new m y))
          (λ y. ⊎_elim (λ z. (m, inr (inl z), no_greater_self m))
          (λ z. (span_of result, inr (inr refl), no_greater_then m z.0 (span_of result) z.2 (by_new z.0 z.1))) (all_keep_off c n v ts m low y)) x)
          (λ e. (span_of result, inr (inr refl), by_best best m g.best_is e)) b) h;
    }
      where
        new_span : span_of new ≡ (let r : Found = record { pattern = new.pattern; start = c; end = n.1 } in r)
        new_span = rw (start, stop) refl

        from_one : (m : Found) → (result ≡ new) ⊎ (best ≡ Some result) → Some (span_of result) ≡ Some m →
            SomeSpells s v ((c, n) ∷ ts) m ⊎ (option_map span_of best ≡ Some m)
        from_one m one e =
            ⊎_elim
            (λ a. inl (inl (subst (λ x. LeadsToMatch s v (c, n) x) (sym new_span ∙ ap span_of (sym a) ∙ same_Some _ _ e) (here_spells new.pattern fresh end is))))
            (λ a. inr (ap (option_map span_of) a ∙ e)) one

        by_new : (m : Found) → LeadsToMatch s v (c, n) m → IsNoGreater m (span_of result)
        by_new m h = subst (λ x. IsNoGreater x (span_of result)) (new_span ∙ sym (spells_here m new.pattern end is h)) g.new_is

        by_best : (b : Option Ending) (m : Found) → ((e : Ending) → b ≡ Some e → IsNoGreater (span_of e) (span_of result)) →
            option_map span_of b ≡ Some m → IsNoGreater m (span_of result)
        by_best None m f e = absurd (none-some m e)
        by_best (Some b) m f e = subst (λ x. IsNoGreater x (span_of result)) (same_Some _ _ e) (f b refl)

  -- the pair was entered already
  pub skips_narrow : (R E : Found → Type 0) (r : Runner) (v : List Pair) (ts : List Runner) → IsIn r.1 v →
      Narrows (λ m. R m ⊎ (SomeSpells s v (r ∷ ts) m ⊎ E m)) (λ m. R m ⊎ (SomeSpells s v ts m ⊎ E m))
  skips_narrow R E r v ts i = record {
    fewer = λ m h. ⊎_elim (λ a. inl a) (λ b. inr (⊎_elim (λ x. inl (inr x)) (λ x. inr x) b)) h;
    enough = λ m h. ⊎_elim (λ a. (m, inl a, no_greater_self m)) (λ b. ⊎_elim
        (λ x. ⊎_elim (λ y. absurd (dead_if_passed (next_of s) Ends i y.is_walk)) (λ y. (m, inr (inl y), no_greater_self m)) x)
        (λ x. (m, inr (inr x), no_greater_self m)) b) h;
  }

  pub onward : (n m : Pair) → IsIn m (next_of s n) → n.1 ≤ m.1
  onward n m i = ways_onward s.places s.text s.hi n m i

  -- pairs passed at earlier positions make no difference
  past : (at : ℕ) (v : List Pair) (r : Runner) → AllUpTo at v → at < r.1.1 → Alike (next_of s) Ends v [] (r.1 ∷ [])
  past at v r low later =
      past_alike (next_of s) Ends onward at v (r.1 ∷ []) low (λ k i. ⊎_elim (λ e. subst (λ (n : Pair). at < n.1) e later) (λ never. absurd never) i)

  -- a runner that goes on later waits behind the others
  pub waits_narrow : (E : Found → Type 0) (at : ℕ) (rs : List Runner) (r : Runner) (v : List Pair) (ts : List Runner) → AllUpTo at v → at < r.1.1 →
      Narrows (λ m. SomeSpells s [] rs m ⊎ (SomeSpells s v (r ∷ ts) m ⊎ E m)) (λ m. SomeSpells s [] (rs ++ r ∷ []) m ⊎ (SomeSpells s v ts m ⊎ E m))
  waits_narrow E at rs r v ts low later = record {
    fewer = λ m h. ⊎_elim
        (λ a. ⊎_elim (λ x. inl x) (λ x. ⊎_elim (λ y. inr (inl (inl (respelled [] v r m (past at v r low later).back y)))) (λ never. absurd never) x)
        (some_parts [] rs (r ∷ []) m a))
        (λ b. inr (⊎_elim (λ x. inl (inr x)) (λ x. inr x) b)) h;
    enough = λ m h. (
      m,
      ⊎_elim (λ a. inl (some_left [] rs (r ∷ []) m a)) (λ b. ⊎_elim
          (λ x. ⊎_elim (λ y. inl (some_right [] rs (r ∷ []) m (inl (respelled v [] r m (past at v r low later).there y)))) (λ y. inr (inl y)) x)
          (λ x. inr (inr x)) b) h,
      no_greater_self m,
    );
  }

  -- the runners enter later positions
  abbrev pub AllLater : ℕ → List Runner → Type 0
  AllLater at [] = Unit {0}
  AllLater at (r ∷ rs) = (at < r.1.1) × AllLater at rs

  later_there : (at : ℕ) (v : List Pair) (ts : List Runner) (m : Found) → AllUpTo at v → AllLater at ts → SomeSpells s v ts m → SomeSpells s [] ts m
  later_there at v [] m low all h = h
  later_there at v (r ∷ ts) m low all h =
      ⊎_elim (λ a. inl (respelled v [] r m (past at v r low all.0).there a)) (λ b. inr (later_there at v ts m low all.1 b)) h

  later_back : (at : ℕ) (v : List Pair) (ts : List Runner) (m : Found) → AllUpTo at v → AllLater at ts → SomeSpells s [] ts m → SomeSpells s v ts m
  later_back at v [] m low all h = h
  later_back at v (r ∷ ts) m low all h =
      ⊎_elim (λ a. inl (respelled [] v r m (past at v r low all.0).back a)) (λ b. inr (later_back at v ts m low all.1 b)) h

  -- all that wait go on at the next position
  pub turns_narrow : (E : Found → Type 0) (at : ℕ) (rs : List Runner) (v : List Pair) (ts : List Runner) → AllUpTo at v → AllLater at ts →
      Narrows (λ m. SomeSpells s [] rs m ⊎ (SomeSpells s v ts m ⊎ E m)) (λ m. SomeSpells s [] [] m ⊎ (SomeSpells s [] (rs ++ ts) m ⊎ E m))
  turns_narrow E at rs v ts low all = record {
    fewer = λ m h. ⊎_elim (λ never. absurd never) (λ b. ⊎_elim
        (λ x. ⊎_elim (λ y. inl y) (λ y. inr (inl (later_back at v ts m low all y))) (some_parts [] rs ts m x)) (λ x. inr (inr x)) b) h;
    enough = λ m h. (
      m,
      ⊎_elim (λ a. inr (inl (some_left [] rs ts m a))) (λ b. ⊎_elim
          (λ x. inr (inl (some_right [] rs ts m (later_there at v ts m low all x)))) (λ x. inr (inr x)) b) h,
      no_greater_self m,
    );
  }
