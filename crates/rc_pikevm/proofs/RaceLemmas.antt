-- One lemma for each step of an ordered pass for the longest walk of the least start, over any graph.
use Rattle.std.proofs.Common.{◌≡◌, ◌≢◌, ℕ, ◌+◌, ◌<◌, ◌≤◌, ◌⊎◌, List, [], ◌∷◌, ◌++◌, Option, Some, None, inl, inr, ⊎_elim, sym, subst, ap, ◌∙◌, refl, arith}
use Rattle.std.specs.Option.{option_map}
use Rattle.std.proofs.lemmas.Bool.{cases_lt}
use Rattle.std.proofs.lemmas.List.{append-nil}
use Rattle.std.proofs.lemmas.Option.{none-some}
use Rattle.rc_walks.specs.Walks.{Pair, IsIn, HasNoWalk}
use Rattle.rc_walks.specs.Threads.{IsFirstOf, over, passes, threads, AllPast, Pends}
use Rattle.rc_walks.proofs.ThreadLemmas.{of_none, of_one, of_rest, skips_pends, enters_pends, matches_pends}
use Rattle.rc_program.proofs.LongestLemmas.{longest_of, none_of_all, none_back}
use Rattle.rc_pikevm.specs.Races.{EndsThere, IsLongestOf, ended, longest, next, EndedBefore, AreReady, upto, Each, IsRising, AreApart, IsQuiet, IsOpen, IsKnown, AreWithin, IsRacing}
use Rattle.rc_pikevm.proofs.OnwardLemmas.{IsOnlyWay, first_on}
use Rattle.rc_pikevm.proofs.PassLemmas.{waits_pends, turned_pends}
use Rattle.rc_pikevm.proofs.RaceListLemmas.{upto_in, upto_out, upto_none, upto_append, upto_upto, upto_threads_in, upto_threads_out, past_upto, each_threads, each_swap, each_to, rising_upto, rising_threads, rising_tail, rising_swap, moved_over}

no_members : (ns : List Pair) → ((m : Pair) → ¬ IsIn m ns) → ns ≡ []
no_members [] h = refl
no_members (n ∷ ns) h = absurd (h n (inl refl))

all_past_append : (H : Type 0) (at : ℕ) (rs ts : List (H × Pair)) → AllPast at rs → AllPast at ts → AllPast at (rs ++ ts)
all_past_append H at [] ts a b = b
all_past_append H at (r ∷ rs) ts a b = (a.0, all_past_append H at rs ts a.1 b)

module _ (ways : Pair → List Pair) (Ends : Pair → Type 0) (H : Type 0) (note : H → Pair → H) (start : H → ℕ)
    (keeps : (h : H) (n : Pair) → start (note h n) ≡ start h)
    (decide : (n m : Pair) → (n ≡ m) ⊎ (n ≢ m)) (last : (n m : Pair) → Ends n → ¬ IsIn m (ways n))
    (onward : (n m : Pair) → IsIn m (ways n) → n.1 ≤ m.1) where
  -- what the threads up to y give for the end e
  abbrev State : ℕ → ℕ → List (H × Pair) → List Pair → List (H × Pair) → Option H → Type 0
  State y e rs v ts o = Pends ways (EndsThere Ends e) H note (upto start y rs) v (upto start y ts) None o

  abbrev Inner : ℕ → List Pair → List (H × Pair) → Option H → Type 0
  Inner e v ts o = IsFirstOf ways (EndsThere Ends e) H note v (λ q. q ≡ None) ts o

  last_at : (e : ℕ) (n m : Pair) → EndsThere Ends e n → ¬ IsIn m (ways n)
  last_at e n m h = last n m h.0

  -- threads of later positions lead to no end that is reached
  quiet_past : (at e : ℕ) (p : List Pair) (R : Option H → Type 0) (ts : List (H × Pair)) (o : Option H) → e ≤ at → AllPast at ts → R o →
      IsFirstOf ways (EndsThere Ends e) H note p R ts o
  quiet_past at e p R [] o le past r = over r
  quiet_past at e p R (t ∷ ts) o le past r =
      passes t (none_back ways Ends onward at e p t.1 le past.0) (quiet_past at e p R ts o le past.1 r)

  -- the pair was entered before
  state_skips : (y e : ℕ) (rs : List (H × Pair)) (v : List Pair) (t : H × Pair) (ts : List (H × Pair)) (o : Option H) → IsIn t.1 v →
      State y e rs v ts o → State y e rs v (t ∷ ts) o
  state_skips y e rs v t ts o i x =
      ⊎_elim
      (λ l. subst (λ k. Pends ways (EndsThere Ends e) H note (upto start y rs) v k None o) (sym (upto_out H start y t ts l)) x)
      (λ g. subst (λ k. Pends ways (EndsThere Ends e) H note (upto start y rs) v k None o) (sym (upto_in H start y t ts g))
      (of_rest ways (EndsThere Ends e) H note
      (λ q z. skips_pends ways (EndsThere Ends e) H note t v (λ r. r ≡ None) (upto start y ts) q i z) x))
      (cases_lt y (start t.0))

  -- without threads the pairs entered don't matter
  other_pairs : (e : ℕ) (v u : List Pair) (ts : List (H × Pair)) (o : Option H) → ts ≡ [] → Inner e v ts o → Inner e u ts o
  other_pairs e v u ts o none x =
      subst (λ k. Inner e u k o) (sym none) (over (of_none ways (EndsThere Ends e) H note (subst (λ k. Inner e v k o) none x)))

  -- a pair is entered from which a walk isn't to end here
  state_enters : (y e : ℕ) (rs : List (H × Pair)) (v : List Pair) (t : H × Pair) (ts : List (H × Pair)) (o : Option H) → ¬ IsIn t.1 v →
      ¬ EndsThere Ends e t.1 → Each start (λ k. start t.0 ≤ k) ts →
      State y e rs (t.1 ∷ v) (threads (note t.0 t.1) (ways t.1) ++ ts) o → State y e rs v (t ∷ ts) o
  state_enters y e rs v t ts o fresh on rising x =
      ⊎_elim
      (λ l. subst (λ k. Pends ways (EndsThere Ends e) H note (upto start y rs) v k None o) (sym (upto_out H start y t ts l))
      (of_rest ways (EndsThere Ends e) H note
      (λ q z. other_pairs e (t.1 ∷ v) v (upto start y ts) q (upto_none H start (start t.0) y ts l rising) z)
      (subst (λ k. Pends ways (EndsThere Ends e) H note (upto start y rs) (t.1 ∷ v) k None o)
      (upto_threads_out H start y (note t.0 t.1) (ways t.1) ts (let s = keeps t.0 t.1 in omega (arith, s, l))) x)))
      (λ g. subst (λ k. Pends ways (EndsThere Ends e) H note (upto start y rs) v k None o) (sym (upto_in H start y t ts g))
      (of_rest ways (EndsThere Ends e) H note
      (λ q z. enters_pends ways (EndsThere Ends e) H note decide (last_at e) t v (λ r. r ≡ None) (upto start y ts) q fresh on z)
      (subst (λ k. Pends ways (EndsThere Ends e) H note (upto start y rs) (t.1 ∷ v) k None o)
      (upto_threads_in H start y (note t.0 t.1) (ways t.1) ts (let s = keeps t.0 t.1 in omega (arith, s, g))) x)))
      (cases_lt y (start t.0))

  -- a thread goes on later
  state_waits : (y e at : ℕ) (rs : List (H × Pair)) (v : List Pair) (t : H × Pair) (ts : List (H × Pair)) (o : Option H) → at < t.1.1 →
      ((k : Pair) → IsIn k v → k.1 ≤ at) → State y e (rs ++ t ∷ []) v ts o → State y e rs v (t ∷ ts) o
  state_waits y e at rs v t ts o later low x =
      let x2 = subst (λ k. Pends ways (EndsThere Ends e) H note k v (upto start y ts) None o) (upto_append H start y rs (t ∷ [])) x in
      ⊎_elim
      (λ l. subst (λ k. Pends ways (EndsThere Ends e) H note (upto start y rs) v k None o) (sym (upto_out H start y t ts l))
      (subst (λ k. Pends ways (EndsThere Ends e) H note k v (upto start y ts) None o)
      (ap (λ k. upto start y rs ++ k) (upto_out H start y t [] l) ∙ append-nil (upto start y rs)) x2))
      (λ g. subst (λ k. Pends ways (EndsThere Ends e) H note (upto start y rs) v k None o) (sym (upto_in H start y t ts g))
      (waits_pends ways (EndsThere Ends e) H note onward at (upto start y rs) t v None (upto start y ts) o later low
      (subst (λ k. Pends ways (EndsThere Ends e) H note (upto start y rs ++ k) v (upto start y ts) None o) (upto_in H start y t [] g) x2)))
      (cases_lt y (start t.0))

  -- the position is over
  state_turns : (y e at : ℕ) (rs : List (H × Pair)) (v : List Pair) (ts : List (H × Pair)) (o : Option H) →
      ((k : Pair) → IsIn k v → k.1 ≤ at) → AllPast at ts → State y e [] [] (rs ++ ts) o → State y e rs v ts o
  state_turns y e at rs v ts o low past x =
      turned_pends ways (EndsThere Ends e) H note onward decide (last_at e) at (upto start y rs) v None (upto start y ts) o low
      (past_upto H start at y ts past)
      (subst (λ k. Pends ways (EndsThere Ends e) H note [] [] k None o) (upto_append H start y rs ts) x)

  pub within_swap : (best : Option (H × ℕ)) (rs a b : List (H × Pair)) → ((Holds : ℕ → Type 0) → Each start Holds a → Each start Holds b) →
      AreWithin start best (rs ++ a) → AreWithin start best (rs ++ b)
  within_swap None rs a b f w = tt
  within_swap (Some c) rs a b f w = each_swap H start (λ y. y ≤ start c.0) rs a b (f (λ y. y ≤ start c.0)) w

  -- The steps.

  -- threads of this position or later lead to no end before it
  quiet_before : (at e : ℕ) (ts : List (H × Pair)) → e < at → AreReady at ts → Inner e [] ts None
  quiet_before at e [] l ready = over refl
  quiet_before at e (t ∷ ts) l ready =
      passes t (none_back ways Ends onward e e [] t.1 (omega arith) (let r = ready.0 in omega (arith, l, r))) (quiet_before at e ts l ready.1)

  ready_upto : (at y : ℕ) (ts : List (H × Pair)) → AreReady at ts → AreReady at (upto start y ts)
  ready_upto at y [] p = tt
  ready_upto at y (t ∷ ts) p =
      ⊎_elim
      (λ l. subst (AreReady at) (sym (upto_out H start y t ts l)) (ready_upto at y ts p.1))
      (λ g. subst (AreReady at) (sym (upto_in H start y t ts g)) (p.0, ready_upto at y ts p.1))
      (cases_lt y (start t.0))

  pub race_begins : (all : List (H × Pair)) (at : ℕ) → AreReady at all → IsRising start all →
      IsRacing ways Ends H note start all at [] [] all None
  race_begins all at ready rising = record {
    carries = λ y e o sought x. of_none ways (EndsThere Ends e) H note x;
    known = λ y e l. quiet_before at e (upto start y all) l (ready_upto at y all ready);
    rising = rising;
    within = tt;
    later = tt;
    here = λ k i. absurd i;
  }

  module _ (all : List (H × Pair)) (at : ℕ) (rs : List (H × Pair)) (v : List Pair) (best : Option (H × ℕ)) where
    abbrev Race : List (H × Pair) → List Pair → List (H × Pair) → Type 0
    Race r u ts = IsRacing ways Ends H note start all at r u ts best

    -- entered before
    pub race_skips : (t : H × Pair) (ts : List (H × Pair)) → IsIn t.1 v → Race rs v (t ∷ ts) → Race rs v ts
    race_skips t ts i r = record {
      carries = λ y e o sought x. r.carries y e o sought (state_skips y e rs v t ts o i x);
      known = r.known;
      rising = rising_swap H start rs (t ∷ ts) ts (λ P h. h.1) (rising_tail H start rs (t ∷ ts) r.rising).1 r.rising;
      within = within_swap best rs (t ∷ ts) ts (λ P h. h.1) r.within;
      later = r.later;
      here = r.here;
    }

    -- A pair is entered where no walk may end, or one of the same start and position has ended.
    pub race_enters : (t : H × Pair) (ts : List (H × Pair)) → ¬ IsIn t.1 v → t.1.1 ≤ at →
        ((y e : ℕ) → IsOpen start at best y e → ¬ EndsThere Ends e t.1) → Race rs v (t ∷ ts) →
        Race rs (t.1 ∷ v) (threads (note t.0 t.1) (ways t.1) ++ ts)
    race_enters t ts fresh now on r =
        let tail = rising_tail H start rs (t ∷ ts) r.rising in
        let same = keeps t.0 t.1 in
        let swap : (Holds : ℕ → Type 0) → Each start Holds (t ∷ ts) → Each start Holds (threads (note t.0 t.1) (ways t.1) ++ ts) =
        λ Holds h. each_threads H start Holds (note t.0 t.1) (ways t.1) ts (subst Holds (sym same) h.0) h.1 in
        record {
          carries = λ y e o sought x. r.carries y e o sought (state_enters y e rs v t ts o fresh (on y e sought) tail.0 x);
          known = r.known;
          rising = rising_swap H start rs (t ∷ ts) (threads (note t.0 t.1) (ways t.1) ++ ts) swap
              (rising_threads H start (note t.0 t.1) (ways t.1) ts (subst (λ k. Each start (λ y. k ≤ y) ts) (sym same) tail.0) tail.1) r.rising;
          within = within_swap best rs (t ∷ ts) (threads (note t.0 t.1) (ways t.1) ++ ts) swap r.within;
          later = r.later;
          here = λ k i. ⊎_elim (λ q. subst (λ (n : Pair). n.1 ≤ at) q now) (λ j. r.here k j) i;
        }

    -- a thread waits for a later position
    pub race_waits : (t : H × Pair) (ts : List (H × Pair)) → at < t.1.1 → Race rs v (t ∷ ts) → Race (rs ++ t ∷ []) v ts
    race_waits t ts later r = record {
      carries = λ y e o sought x. r.carries y e o sought (state_waits y e at rs v t ts o later r.here x);
      known = r.known;
      rising = subst (IsRising start) (moved_over H start rs t ts) r.rising;
      within = subst (AreWithin start best) (moved_over H start rs t ts) r.within;
      later = all_past_append H at rs (t ∷ []) r.later (later, tt);
      here = r.here;
    }

  -- a walk ends where the best did, or before: it comes later, so it is left out
  pub race_ignores : (all : List (H × Pair)) (at : ℕ) (rs : List (H × Pair)) (v : List Pair) (b : H × ℕ) (t : H × Pair) (ts : List (H × Pair)) →
      ¬ IsIn t.1 v → t.1.1 ≡ at → Ends t.1 → at ≤ b.1 → IsRacing ways Ends H note start all at rs v (t ∷ ts) (Some b) →
      IsRacing ways Ends H note start all at rs (t.1 ∷ v) ts (Some b)
  race_ignores all at rs v b t ts fresh now end by r =
      subst (λ ns. IsRacing ways Ends H note start all at rs (t.1 ∷ v) (threads (note t.0 t.1) ns ++ ts) (Some b))
      (no_members (ways t.1) (λ m. last t.1 m end))
      (race_enters all at rs v (Some b) t ts fresh (omega (arith, now))
      (λ y e sought there. let a = sought.1 in let d = there.1 in omega (arith, a, d, now, by)) r)

  -- a thread at a pair of which one way alone leads on enters by that way
  pub race_way_in : (all : List (H × Pair)) (at : ℕ) (rs : List (H × Pair)) (v : List Pair) (best : Option (H × ℕ)) (h : H) (n a : Pair)
      (ts : List (H × Pair)) → ¬ IsIn n v → note h n ≡ h → ((e : ℕ) → IsOnlyWay ways (EndsThere Ends e) n a) → ¬ Ends n →
      IsRacing ways Ends H note start all at rs v ((h, n) ∷ ts) best → IsRacing ways Ends H note start all at rs v ((h, a) ∷ ts) best
  race_way_in all at rs v best h n a ts fresh silent only on r = record {
    carries = λ y e o sought x. r.carries y e o sought (there y e o x);
    known = r.known;
    rising = rising_swap H start rs ((h, n) ∷ ts) ((h, a) ∷ ts) (λ Holds k. k) (rising_tail H start rs ((h, n) ∷ ts) r.rising) r.rising;
    within = within_swap best rs ((h, n) ∷ ts) ((h, a) ∷ ts) (λ Holds k. k) r.within;
    later = r.later;
    here = r.here;
  }
    where
      there : (y e : ℕ) (o : Option H) → State y e rs v ((h, a) ∷ ts) o → State y e rs v ((h, n) ∷ ts) o
      there y e o x =
          ⊎_elim
          (λ l. subst (λ k. Pends ways (EndsThere Ends e) H note (upto start y rs) v k None o) (sym (upto_out H start y (h, n) ts l))
          (subst (λ k. Pends ways (EndsThere Ends e) H note (upto start y rs) v k None o) (upto_out H start y (h, a) ts l) x))
          (λ g. subst (λ k. Pends ways (EndsThere Ends e) H note (upto start y rs) v k None o) (sym (upto_in H start y (h, n) ts g))
          (of_rest ways (EndsThere Ends e) H note
          (λ q z. first_on ways (EndsThere Ends e) n a (λ k. on k.0) (only e) H note (last_at e) h v (upto start y ts) q
          fresh silent z)
          (subst (λ k. Pends ways (EndsThere Ends e) H note (upto start y rs) v k None o) (upto_in H start y (h, a) ts g) x)))
          (cases_lt y (start h))

  open_here : (at : ℕ) (best : Option (H × ℕ)) (rs ts : List (H × Pair)) (t : H × Pair) (y e : ℕ) → EndedBefore at best →
      AreWithin start best (rs ++ t ∷ ts) → y ≤ start t.0 → at ≤ e → IsOpen start at best y e
  open_here at None rs ts t y e before within le here = here
  open_here at (Some b) rs ts t y e before within le here =
      let w = tail_of rs within in (here, omega (arith, before, here), omega (arith, w, le))
    where
      tail_of : (rs : List (H × Pair)) → Each start (λ k. k ≤ start b.0) (rs ++ t ∷ ts) → start t.0 ≤ start b.0
      tail_of [] w = w.0
      tail_of (r ∷ rs) w = tail_of rs w.1

  known_before : (all : List (H × Pair)) (at : ℕ) (best : Option (H × ℕ)) (rs ts : List (H × Pair)) (t : H × Pair) (y e : ℕ) →
      AreWithin start best (rs ++ t ∷ ts) → IsKnown ways Ends H note start all at best → y < start t.0 → e < at →
      IsQuiet ways Ends H note start all y e
  known_before all at None rs ts t y e within known less before = known y e before
  known_before all at (Some b) rs ts t y e within known less before =
      let w = tail_of rs within in known.0 y e (omega (arith, w, less)) (inl before)
    where
      tail_of : (rs : List (H × Pair)) → Each start (λ k. k ≤ start b.0) (rs ++ t ∷ ts) → start t.0 ≤ start b.0
      tail_of [] w = w.0
      tail_of (r ∷ rs) w = tail_of rs w.1

  -- A walk ends: it is the best so far, and the threads of later starts end. Those of its own start go on.
  pub race_matches : (all : List (H × Pair)) (at : ℕ) (rs : List (H × Pair)) (v : List Pair) (best : Option (H × ℕ)) (t : H × Pair)
      (ts : List (H × Pair)) → ¬ IsIn t.1 v → t.1.1 ≡ at → Ends t.1 → EndedBefore at best →
      IsRacing ways Ends H note start all at rs v (t ∷ ts) best →
      IsRacing ways Ends H note start all at (upto start (start t.0) rs) (t.1 ∷ v) (upto start (start t.0) ts) (Some (note t.0 t.1, at))
  race_matches all at rs v best t ts fresh now end before r = record {
    carries = λ y e o sought x.
        let le : y ≤ start t.0 = let a = sought.2 in omega (arith, a, same) in
        let not_here : ¬ EndsThere Ends e t.1 = λ there. let a = sought.1 in let b = there.1 in omega (arith, a, b, now) in
        r.carries y e o (open_here at best rs ts t y e before r.within le sought.0)
        (state_enters y e rs v t ts o fresh not_here tail.0
        (subst (λ ns. State y e rs (t.1 ∷ v) (threads (note t.0 t.1) ns ++ ts) o) (sym (no_members (ways t.1) (λ m. last t.1 m end)))
        (subst (λ k. Pends ways (EndsThere Ends e) H note (upto start y rs) (t.1 ∷ v) k None o) (upto_upto H start (start t.0) y ts le)
        (subst (λ k. Pends ways (EndsThere Ends e) H note k (t.1 ∷ v) (upto start y (upto start (start t.0) ts)) None o)
        (upto_upto H start (start t.0) y rs le) x))));
    known = (
      λ y e l past.
          let less : y < start t.0 = omega (arith, l, same) in
          ⊎_elim
          (λ b. known_before all at best rs ts t y e r.within r.known less b)
          (λ ge. quiet_here y e less (⊎_elim (λ b. absurd (omega (arith, b, ge))) (λ b. omega (arith, b, ge)) past))
          (cases_lt e at),
      λ e a b. absurd (omega (arith, a, b)),
      subst (λ x. IsFirstOf ways (EndsThere Ends at) H note [] (λ q. q ≡ None) (upto start x all) (Some (note t.0 t.1))) (sym same)
          (r.carries (start t.0) at (Some (note t.0 t.1)) (open_here at best rs ts t (start t.0) at before r.within (omega arith) (omega arith))
          (quiet_past at at [] (λ p. Inner at v (upto start (start t.0) (t ∷ ts)) p) (upto start (start t.0) rs) (Some (note t.0 t.1)) (omega arith)
          (past_upto H start at (start t.0) rs r.later)
          (subst (λ k. Inner at v k (Some (note t.0 t.1))) (sym (upto_in H start (start t.0) t ts (omega arith)))
          (matches_pends ways (EndsThere Ends at) H note decide (last_at at) t v (λ q. q ≡ None) (upto start (start t.0) ts) (Some (note t.0 t.1)) fresh (end, now) refl)))),
    );
    rising = subst (IsRising start) (upto_append H start (start t.0) rs ts)
        (rising_upto H start (start t.0) (rs ++ ts) (rising_swap H start rs (t ∷ ts) ts (λ P h. h.1) tail.1 r.rising));
    within = subst (λ x. Each start (λ y. y ≤ x) (upto start (start t.0) rs ++ upto start (start t.0) ts)) (sym same)
        (subst (Each start (λ y. y ≤ start t.0)) (upto_append H start (start t.0) rs ts) (each_to H start (start t.0) (rs ++ ts)));
    later = past_upto H start at (start t.0) rs r.later;
    here = λ k i. ⊎_elim (λ q. subst (λ (n : Pair). n.1 ≤ at) q (omega (arith, now))) (λ j. r.here k j) i;
  }
    where
      same : start (note t.0 t.1) ≡ start t.0
      same = keeps t.0 t.1

      tail : Each start (λ y. start t.0 ≤ y) ts × IsRising start ts
      tail = rising_tail H start rs (t ∷ ts) r.rising

      quiet_here : (y e : ℕ) → y < start t.0 → e ≡ at → IsQuiet ways Ends H note start all y e
      quiet_here y e less here =
          r.carries y e None (open_here at best rs ts t y e before r.within (omega (arith, less)) (omega (arith, here)))
          (quiet_past at e [] (λ p. Inner e v (upto start y (t ∷ ts)) p) (upto start y rs) None (omega (arith, here)) (past_upto H start at y rs r.later)
          (subst (λ k. Inner e v k None) (sym (upto_none H start (start t.0) y (t ∷ ts) less (omega arith, tail.0))) (over refl)))

  -- The position is over: the threads that rest come before those that have not set out yet.
  pub race_turns : (all : List (H × Pair)) (at : ℕ) (rs : List (H × Pair)) (v : List Pair) (best : Option (H × ℕ)) (ts : List (H × Pair)) →
      AllPast at ts → IsRacing ways Ends H note start all at rs v ts best → IsRacing ways Ends H note start all (at + 1) [] [] (rs ++ ts) best
  race_turns all at rs v best ts past r = record {
    carries = λ y e o sought x. r.carries y e o (sooner best y e sought) (state_turns y e at rs v ts o r.here past x);
    known = knows best r.carries r.known;
    rising = r.rising;
    within = r.within;
    later = tt;
    here = λ k i. absurd i;
  }
    where
      sooner : (best : Option (H × ℕ)) (y e : ℕ) → IsOpen start (at + 1) best y e → IsOpen start at best y e
      sooner None y e s = omega (arith, s)
      sooner (Some b) y e s = let a = s.0 in (omega (arith, a), s.1, s.2)

      nothing : (y e : ℕ) → e ≤ at → State y e rs v ts None
      nothing y e le =
          quiet_past at e [] (λ p. Inner e v (upto start y ts) p) (upto start y rs) None le (past_upto H start at y rs r.later)
          (quiet_past at e v (λ q. q ≡ None) (upto start y ts) None le (past_upto H start at y ts past) refl)

      knows : (best : Option (H × ℕ)) →
          ((y e : ℕ) (o : Option H) → IsOpen start at best y e → State y e rs v ts o → Inner e [] (upto start y all) o) →
          IsKnown ways Ends H note start all at best → IsKnown ways Ends H note start all (at + 1) best
      knows None carries known = λ y e l.
          ⊎_elim (λ b. known y e b) (λ ge. carries y e None ge (nothing y e (omega (arith, l)))) (cases_lt e at)
      knows (Some b) carries known = (
        λ y e less p. ⊎_elim
            (λ n. known.0 y e less (inl n))
            (λ ge. ⊎_elim
            (λ n. carries y e None (ge, n, omega (arith, less)) (nothing y e (⊎_elim (λ q. omega (arith, q)) (λ q. absurd (omega (arith, q, n))) p)))
            (λ le. known.0 y e less (inr le))
            (cases_lt b.1 e))
            (cases_lt e at),
        λ e n l. ⊎_elim
            (λ q. known.1 e n q)
            (λ ge. carries (start b.0) e None (ge, n, omega arith) (nothing (start b.0) e (omega (arith, l))))
            (cases_lt e at),
        known.2,
      )

  -- The pass is over.

  tail_quiet : (y e : ℕ) (t : H × Pair) (ts : List (H × Pair)) (o : Option H) → HasNoWalk ways (EndsThere Ends e) [] (t.1 ∷ []) →
      Inner e [] (upto start y (t ∷ ts)) o → Inner e [] (upto start y ts) o
  tail_quiet y e t ts o none x =
      ⊎_elim
      (λ l. subst (λ k. Inner e [] k o) (upto_out H start y t ts l) x)
      (λ g. ⊎_elim
      (λ f. absurd (none f.0 f.1.is_walk))
      (λ f. f.1)
      (of_one ways (EndsThere Ends e) H note (subst (λ k. Inner e [] k o) (upto_in H start y t ts g) x)))
      (cases_lt y (start t.0))

  head_quiet : (y e : ℕ) (t : H × Pair) (ts : List (H × Pair)) → start t.0 ≤ y → Inner e [] (upto start y (t ∷ ts)) None →
      HasNoWalk ways (EndsThere Ends e) [] (t.1 ∷ [])
  head_quiet y e t ts g x =
      ⊎_elim (λ f. absurd (none-some _ f.2)) (λ f. f.0)
      (of_one ways (EndsThere Ends e) H note (subst (λ k. Inner e [] k None) (upto_in H start y t ts g) x))

  all_quiet : (ts : List (H × Pair)) → ((y e : ℕ) → Inner e [] (upto start y ts) None) → IsLongestOf ways Ends H note ts None
  all_quiet [] q = ended
  all_quiet (t ∷ ts) q =
      let none : (e : ℕ) → HasNoWalk ways (EndsThere Ends e) [] (t.1 ∷ []) = λ e. head_quiet (start t.0) e t ts (omega arith) (q (start t.0) e) in
      next t (none_of_all ways Ends [] (t.1 ∷ []) none) (all_quiet ts (λ y e. tail_quiet y e t ts None (none e) (q y e)))

  best_found : (h : H) (b : ℕ) (ts : List (H × Pair)) → AreApart start ts →
      ((y e : ℕ) → y < start h → Inner e [] (upto start y ts) None) →
      ((e : ℕ) → b < e → Inner e [] (upto start (start h) ts) None) →
      Inner b [] (upto start (start h) ts) (Some h) → IsLongestOf ways Ends H note ts (Some h)
  best_found h b [] apart before beyond there = absurd (none-some _ (sym (of_none ways (EndsThere Ends b) H note there)))
  best_found h b (t ∷ ts) apart before beyond there =
      ⊎_elim
      (λ l. let none : (e : ℕ) → HasNoWalk ways (EndsThere Ends e) [] (t.1 ∷ []) =
      λ e. head_quiet (start t.0) e t ts (omega arith) (before (start t.0) e l) in
      next t (none_of_all ways Ends [] (t.1 ∷ []) none)
      (best_found h b ts apart.1 (λ y e less. tail_quiet y e t ts None (none e) (before y e less))
      (λ e m. tail_quiet (start h) e t ts None (none e) (beyond e m))
      (tail_quiet (start h) b t ts (Some h) (none b) there)))
      (λ ge. ⊎_elim
      (λ l. absurd (none-some _ (sym (of_none ways (EndsThere Ends b) H note
      (subst (λ k. Inner b [] k (Some h)) (upto_out H start (start h) t ts l ∙ upto_none H start (start t.0 + 1) (start h) ts (omega (arith, l)) (further ts apart.0)) there)))))
      (λ le. ⊎_elim
      (λ f. subst (IsLongestOf ways Ends H note (t ∷ ts)) (sym f.2)
      (longest t f.0 (longest_of ways Ends [] (t.1 ∷ []) f.0 b f.1 (λ m n. head_quiet (start h) m t ts le (beyond m n)))))
      (λ f. absurd (none-some _ (sym (of_none ways (EndsThere Ends b) H note
      (subst (λ k. Inner b [] k (Some h)) (upto_none H start (start t.0 + 1) (start h) ts (omega (arith, ge)) (further ts apart.0)) f.1)))))
      (of_one ways (EndsThere Ends b) H note (subst (λ k. Inner b [] k (Some h)) (upto_in H start (start h) t ts le) there)))
      (cases_lt (start h) (start t.0)))
      (cases_lt (start t.0) (start h))
    where
      further : (us : List (H × Pair)) → Each start (λ y. start t.0 < y) us → Each start (λ y. start t.0 + 1 ≤ y) us
      further [] e = tt
      further (u ∷ us) e = let a = e.0 in (omega (arith, a), further us e.1)

  pub race_ends : (all : List (H × Pair)) (at : ℕ) (v : List Pair) (best : Option (H × ℕ)) → AreApart start all →
      IsRacing ways Ends H note start all at [] v [] best → IsLongestOf ways Ends H note all (option_map (λ (b : H × ℕ). b.0) best)
  race_ends all at v best apart r = gives best r.carries r.known
    where
      gives : (best : Option (H × ℕ)) →
          ((y e : ℕ) (o : Option H) → IsOpen start at best y e → State y e [] v [] o → Inner e [] (upto start y all) o) →
          IsKnown ways Ends H note start all at best → IsLongestOf ways Ends H note all (option_map (λ (b : H × ℕ). b.0) best)
      gives None carries known =
          all_quiet all (λ y e. ⊎_elim (λ l. known y e l) (λ ge. carries y e None ge (over (over refl))) (cases_lt e at))
      gives (Some b) carries known =
          best_found b.0 b.1 all apart
          (λ y e less. ⊎_elim (λ l. known.0 y e less (inl l))
          (λ ge. ⊎_elim (λ n. carries y e None (ge, n, omega (arith, less)) (over (over refl))) (λ le. known.0 y e less (inr le)) (cases_lt b.1 e))
          (cases_lt e at))
          (λ e n. ⊎_elim (λ l. known.1 e n l) (λ ge. carries (start b.0) e None (ge, n, omega arith) (over (over refl))) (cases_lt e at))
          known.2

  weakened : (x : ℕ) (ts : List (H × Pair)) → Each start (λ y. x < y) ts → Each start (λ y. x ≤ y) ts
  weakened x [] e = tt
  weakened x (t ∷ ts) e = let a = e.0 in (omega (arith, a), weakened x ts e.1)

  pub apart_rising : (ts : List (H × Pair)) → AreApart start ts → IsRising start ts
  apart_rising [] a = tt
  apart_rising (t ∷ ts) a = (weakened (start t.0) ts a.0, apart_rising ts a.1)
