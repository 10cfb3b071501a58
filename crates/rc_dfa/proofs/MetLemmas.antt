-- What is met on the way forwards is the end of a walk.
use Rattle.std.proofs.Common.{◌≡◌, ℕ, zero, suc, ◌+◌, ◌-◌, ◌≤◌, Bool, List, [], ◌∷◌, map, take, drop, Option, Some, None, inl, inr, ⊎_elim, subst, refl, arith}
use Rattle.std.proofs.lemmas.Option.{none-some, same_Some}
use Rattle.rc_pattern.specs.declared.hir.Look.{Look}
use Rattle.rc_walks.specs.Walks.{Pair, IsIn, IsWalk, stops, goes, EndsAt}
use Rattle.rc_walks.proofs.CutLemmas.{EndsAt-tail, from_other}
use Rattle.rc_program.specs.Text.{Text, holds, before_at, after_at}
use Rattle.rc_program.specs.Program.{Place, choice, byte, branch, scalar, guard, slot, accept, Way, pair_at, over_byte, ways_out, place_at, ways}
use Rattle.rc_program.proofs.WayLemmas.{same_pair, ways_within}
use Rattle.rc_determinize.specs.Gives.{Gives}
use Rattle.rc_determinize.specs.LongestLaws.{FirstReaches}
use Rattle.rc_determinize.specs.Run.{Reaches, arrived, goes_on, IsGoal}
use Rattle.rc_utf8.specs.Laws.{IsBytePlace}
use Rattle.rc_determinize.specs.Steps.{IsByBytes}
use Rattle.rc_determinize.specs.States.{State, Stops, best_at}
use Rattle.rc_determinize.specs.Sets.{Comes}
use Rattle.rc_determinize.specs.Sets as sets
use Rattle.rc_determinize.proofs.RunLemmas.{reach_walks}
use Rattle.rc_determinize.proofs.TextLemmas.{near, last}
use Rattle.rc_dfa.specs.Machine.{Alphabet, Machine}
use Rattle.rc_dfa.specs.Runs.{RunEnd, met_last, stopped_at, MayReadSide, LeadsBy, RunsOver, EndsOver, at_bound, dead, early, quit, rests}
use Rattle.rc_dfa.specs.Runs as runs
use Rattle.rc_dfa.proofs.AlphabetLemmas.{across_near}
use Rattle.rc_dfa.proofs.StartLemmas.{same_met, stop_no_met, rest_no_met}

-- WHERE IT WAS MET

module _ (m : Machine) (t : Text) (hi from : ℕ) (first : State) where
  -- a run is within a lower bound too
  pub runs_below : {a : Alphabet} {i : ℕ} {s : State} {met : Option Pair} → RunsOver a m t hi from first i s met → (bound : ℕ) → i ≤ bound →
      RunsOver a m t bound from first i s met
  runs_below runs.begun bound le = runs.begun
  runs_below (runs.goes_on i s next r lt may step) bound le = runs.goes_on i s next (runs_below r bound (omega (arith, le))) (omega (arith, le)) may step

  pub runs_low : {a : Alphabet} {i : ℕ} {s : State} {met : Option Pair} → RunsOver a m t hi from first i s met → from ≤ i
  runs_low runs.begun = omega arith
  runs_low (runs.goes_on i s next r lt may step) = let low = runs_low r in omega (arith, low)

  pub record IsMetAt (a : Alphabet) (n : Pair) : Type 0 where
    pub within : n.1 ≤ hi
    pub state : State
    pub next : State
    pub before : Option Pair
    pub run : RunsOver a m t hi from first n.1 state before
    pub may : MayReadSide a m (after_at t n.1)
    pub step : LeadsBy a m (after_at t n.1) state next
    pub matched : next.matched ≡ Some n.0

  -- at this step, or before
  at_step : (a : Alphabet) (i : ℕ) (s next : State) (met : Option Pair) (n : Pair) → i ≤ hi → RunsOver a m t hi from first i s met →
      MayReadSide a m (after_at t i) → LeadsBy a m (after_at t i) s next → best_at i next.matched met ≡ Some n → ((met ≡ Some n) → IsMetAt a n) → IsMetAt a n
  at_step a i s next met n le r may step is before = by_stop next.matched refl is
    where
      by_stop : (o : Option ℕ) → next.matched ≡ o → best_at i o met ≡ Some n → IsMetAt a n
      by_stop None e b = before b
      by_stop (Some q) e b = subst (λ k. IsMetAt a k) (same_Some (q, i) n b)
          (record { within = le; state = s; next = next; before = met; run = r; may = may; step = step; matched = e })

  run_met : {a : Alphabet} {i : ℕ} {s : State} {met : Option Pair} → RunsOver a m t hi from first i s met → (n : Pair) → met ≡ Some n → IsMetAt a n
  run_met runs.begun n e = absurd (none-some n e)
  run_met {a} (runs.goes_on {met} i s next r lt may step) n e =
      at_step a i s next met n (omega (arith, lt)) r may (across_near a m (after_at t i) (before_at t (i + 1)) s next step) e (run_met r n)

  pub end_met : {a : Alphabet} (earliest : Bool) (e : RunEnd) (n : Pair) → EndsOver a m t hi from first earliest e → e ≡ met_last (Some n) → IsMetAt a n
  end_met {a} earliest e n (at_bound {met} s next r may step) is = at_step a hi s next met n (omega arith) r may step (same_met is) (run_met r n)
  end_met earliest e n (dead i s r d) is = run_met r n (same_met is)
  end_met earliest e n (early i s t2 r) is = run_met r n (same_met is)
  end_met earliest e n (quit i s r le unread) is = absurd (stop_no_met is)
  end_met earliest e n (rests i s r le idle) is = absurd (rest_no_met is)

-- WALKS WITHIN A LOWER BOUND

over_more : (f : ℕ → List Way) (x : ℕ) (m : Pair) (k l : ℕ) (zs : List ℕ) → k ≤ l → IsIn m (map (pair_at x) (over_byte f (take k zs))) →
    IsIn m (map (pair_at x) (over_byte f (take l zs)))
over_more f x m zero l zs le h = absurd h
over_more f x m (suc k) zero zs le h = absurd (omega (arith, le))
over_more f x m (suc k) (suc l) [] le h = absurd h
over_more f x m (suc k) (suc l) (z ∷ zs) le h = h

place_more : (test : Look → Bool) (place : Place) → IsBytePlace place → (x : ℕ) (m : Pair) (k l : ℕ) (zs : List ℕ) → k ≤ l →
    IsIn m (map (pair_at x) (ways_out test (take k zs) place)) → IsIn m (map (pair_at x) (ways_out test (take l zs) place))
place_more test (choice ns) b x m k l zs le h = h
place_more test (byte rs n) b x m k l zs le h = over_more _ x m k l zs le h
place_more test (branch ts) b x m k l zs le h = over_more _ x m k l zs le h
place_more test (scalar rs n) b x m k l zs le h = absurd b
place_more test (guard o n) b x m k l zs le h = h
place_more test (slot o n) b x m k l zs le h = h
place_more test (accept p) b x m k l zs le h = h

ways_more : (places : List Place) (t : Text) (bound hi : ℕ) → IsByBytes places → bound ≤ hi → (n m : Pair) → IsIn m (ways places t bound n) → IsIn m (ways places t hi n)
ways_more places t bound hi by_bytes le n m h =
    place_more (λ l. holds t l n.1) (place_at places n.0) (by_bytes n.0) n.1 m (bound - n.1) (hi - n.1) (drop n.1 t.content) (omega (arith, le)) h

pub comes_more : (places : List Place) (t : Text) (bound hi : ℕ) → IsByBytes places → bound ≤ hi → (fewer more : List Pair) →
    ((n : Pair) → IsIn n fewer → IsIn n more) → {n : Pair} → Comes (ways places t bound) fewer n → Comes (ways places t hi) more n
comes_more places t bound hi by_bytes le fewer more those (sets.begins n h) = sets.begins n (those n h)
comes_more places t bound hi by_bytes le fewer more those (sets.goes n m c h) =
    sets.goes n m (comes_more places t bound hi by_bytes le fewer more those c) (ways_more places t bound hi by_bytes le m n h)

-- WALKS AND THEIR ENDS

module _ (W : Pair → List Pair) (Ends : Pair → Type 0) (origin : List Pair) where
  walk_comes : {p f w : List Pair} (n : Pair) → IsWalk W Ends p f w → EndsAt w n → ((k : Pair) → IsIn k f → Comes W origin k) → Comes W origin n × Ends n
  walk_comes n (stops k here fresh matched) at from = (subst (λ x. Comes W origin x) at (from k here), subst Ends at matched)
  walk_comes n (goes k here fresh rest) at from =
      walk_comes n rest (EndsAt-tail W Ends k n rest at) (λ x i. sets.goes x k (from k here) i)

  -- where the first walk ends a walk ends
  pub gives_met : (n : Pair) → Gives W Ends [] origin (Some n) → Comes W origin n × Ends n
  gives_met n g = walk_comes n g.1.is_walk g.2 (λ k i. sets.begins k i)

  -- and so where the longest walk of the first of the pairs ends
  pub reaches_met : (n : Pair) (from : List Pair) → ((k : Pair) → IsIn k from → IsIn k origin) → FirstReaches W Ends from n → Comes W origin n × Ends n
  reaches_met n [] those f = absurd f
  reaches_met n (m ∷ from) those f =
      ⊎_elim
      (λ r. walk_comes n r.1.is_walk r.2 (λ k i. ⊎_elim (λ e. sets.begins k (those k (inl e))) (λ never. absurd never) i))
      (λ r. reaches_met n from (λ k i. those k (inr i)) r.1)
      f

  comes_back : (Goal : Pair → Type 0) {n : Pair} → Comes W origin n → Reaches W Goal n → (m : Pair) × IsIn m origin × Reaches W Goal m
  comes_back Goal (sets.begins n h) r = (n, h, r)
  comes_back Goal (sets.goes n m c e) r = comes_back Goal c (goes_on m n e r)

-- where there is no walk, none ends
pub gives_none : (places : List Place) (t : Text) (hi : ℕ) → IsByBytes places → (origin : List Pair) → Gives (ways places t hi) (Stops places) [] origin None →
    (n : Pair) → Comes (ways places t hi) origin n → ¬ Stops places n
gives_none places t hi by_bytes origin none n c matched =
    let r = comes_back (ways places t hi) (Stops places) origin (IsGoal (Stops places) n.1) c (arrived n (matched, refl)) in
    reach_walks (ways places t hi) (Stops places) same_pair (last places t hi None) (near places t hi by_bytes) n.1 r.0 r.2
    (λ w walk. none w (from_other (ways places t hi) (Stops places) r.0 origin r.1 walk))

-- no walk comes past the bound
pub comes_within : (places : List Place) (t : Text) (hi : ℕ) (origin : List Pair) → ((n : Pair) → IsIn n origin → n.1 ≤ hi) → {n : Pair} →
    Comes (ways places t hi) origin n → n.1 ≤ hi
comes_within places t hi origin below (sets.begins n h) = below n h
comes_within places t hi origin below (sets.goes n m c h) = ways_within places t hi m n (comes_within places t hi origin below c) h
