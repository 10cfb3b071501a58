-- A lone thread of a pass for the longest walk.
use Rattle.std.proofs.Common.{◌≡◌, ℕ, ◌+◌, ◌<◌, ◌≤◌, ◌⊎◌, List, [], ◌∷◌, ◌++◌, length, map, inl, inr, ⊎_elim, sym, subst, ap, ◌∙◌, refl, arith, Bool, true, false, true≢false, IsTrue, Option, Some, None, is_none, replicate}
use Rattle.std.proofs.lemmas.Bool.{cases_lt}
use Rattle.rc_walks.specs.Walks.{Pair, IsIn, HasNoWalk}
use Rattle.rc_walks.specs.Threads.{Pends, passes}
use Rattle.rc_walks.proofs.ThreadLemmas.{of_rest}
use Rattle.rc_program.proofs.LongestLemmas.{none_to}
use Rattle.rc_program.proofs.WayLemmas.{same_pair}
use Rattle.rc_pikevm.specs.Sights.{Sight, ends, next_of}
use Rattle.rc_pikevm.specs.Sparse.{Has}
use Rattle.rc_pikevm.specs.Threads.{Thread}
use Rattle.rc_pikevm.specs.Trace.{Trace, note, trace, sets_out}
use Rattle.rc_pikevm.specs.Moves.{IsMove}
use Rattle.rc_pikevm.specs.Passing.{pending, pairs}
use Rattle.rc_pikevm.specs.Races.{EndsThere, EndedBefore, upto, IsRacing, began, leading, kept, Races, IsSought, IsCutOff, starts_to}
use Rattle.rc_pikevm.specs.Alone.{EndsAlone, IsAhead, IsDead, LeadsTo, ReadsOne}
use Rattle.rc_pikevm.specs.declared.pass.Ending.{Ending}
use Rattle.rc_pikevm.specs.declared.moves.Move.TheVariants.{Matches, Reads}
use Rattle.rc_pikevm.proofs.SightLemmas.{last_pair}
use Rattle.rc_pikevm.proofs.MoveLemmas.{Ends, onward}
use Rattle.rc_pikevm.proofs.EnteredLemmas.{pairs_has}
use Rattle.rc_pikevm.proofs.OnwardLemmas.{IsOnlyWay, first_on, only_one, only_first, only_second}
use Rattle.rc_pikevm.proofs.PassingLemmas.{no_threads}
use Rattle.rc_pikevm.proofs.StartLemmas.{waiting_past}
use Rattle.rc_pikevm.proofs.RaceListLemmas.{upto_in, upto_out, rising_tail, rising_swap}
use Rattle.rc_pikevm.proofs.RaceLemmas.{within_swap}
use Rattle.rc_pikevm.proofs.RaceMoveLemmas.{note_keeps, kept_in, raced_drops, raced_waits, raced_matches, plain_on}
use Rattle.rc_pikevm.proofs.RacePassLemmas.{starts_next, starts_over, cut_starts, raced_turns}

-- The only way on is the only one where walks may end at one position alone.
module _ (s : Sight) (at p a : ℕ) where
  pub stays_there : next_of s (p, at) ≡ (a, at) ∷ [] → (e : ℕ) → IsOnlyWay (next_of s) (EndsThere (Ends s) e) (p, at) (a, at)
  stays_there out e = only_one (next_of s) (EndsThere (Ends s) e) (p, at) (a, at) out

  module _ (b : ℕ) (dead : IsDead s ((p, at) ∷ []) (b, at)) where
    dead_there : (e : ℕ) → HasNoWalk (next_of s) (EndsThere (Ends s) e) ((p, at) ∷ []) ((b, at) ∷ [])
    dead_there e = none_to (next_of s) (Ends s) ((p, at) ∷ []) ((b, at) ∷ []) e dead

    pub first_there : next_of s (p, at) ≡ (a, at) ∷ (b, at) ∷ [] → (e : ℕ) → IsOnlyWay (next_of s) (EndsThere (Ends s) e) (p, at) (a, at)
    first_there out e = only_first (next_of s) (EndsThere (Ends s) e) (p, at) (a, at) (b, at) (dead_there e) out

    pub second_there : next_of s (p, at) ≡ (b, at) ∷ (a, at) ∷ [] → (e : ℕ) → IsOnlyWay (next_of s) (EndsThere (Ends s) e) (p, at) (a, at)
    second_there out e = only_second (next_of s) (EndsThere (Ends s) e) (p, at) (a, at) (b, at) (dead_there e) out

pub sought_or_cut : (best : Option Ending) (x : ℕ) → IsSought best x ⊎ IsCutOff best x
sought_or_cut None x = inl tt
sought_or_cut (Some r) x = ⊎_elim (λ l. inr l) (λ g. inl g) (cases_lt r.start x)

pub cut_later : (best : Option Ending) (x y : ℕ) → x ≤ y → IsCutOff best x → IsCutOff best y
cut_later None x y le cut = absurd cut
cut_later (Some r) x y le cut = omega (arith, le, cut)

module _ (s : Sight) (all : List (Trace × Pair)) (at : ℕ) where
  abbrev Race : List (Trace × Pair) → List Pair → List (Trace × Pair) → Option (Trace × ℕ) → Type 0
  Race rs v ts best = IsRacing (next_of s) (λ n. IsTrue (ends s n)) Trace (note s.places) began all at rs v ts best

  abbrev Gives : ℕ → List (Trace × Pair) → List Pair → List (Trace × Pair) → Option Trace → Type 0
  Gives e rs v ts o = Pends (next_of s) (EndsThere (Ends s) e) Trace (note s.places) rs v ts None o

  module _ (rs : List (Trace × Pair)) (v : List Pair) (best : Option (Trace × ℕ)) where
    -- a thread goes on by the only way
    race_goes : (h : Trace) (n a : Pair) (ts : List (Trace × Pair)) → ¬ IsIn n v → note s.places h n ≡ h → ¬ Ends s n →
        ((e : ℕ) → IsOnlyWay (next_of s) (EndsThere (Ends s) e) n a) → Race rs v ((h, n) ∷ ts) best → Race rs v ((h, a) ∷ ts) best
    race_goes h n a ts fresh silent on only r = record {
      carries = λ y e o sought x. r.carries y e o sought (there y e o x);
      known = r.known;
      rising = rising_swap Trace began rs ((h, n) ∷ ts) ((h, a) ∷ ts) (λ Holds k. k) (rising_tail Trace began rs ((h, n) ∷ ts) r.rising) r.rising;
      within = within_swap (next_of s) (Ends s) Trace (note s.places) began (note_keeps s.places) same_pair (last_pair s) (onward s) best rs
          ((h, n) ∷ ts) ((h, a) ∷ ts) (λ Holds k. k) r.within;
      later = r.later;
      here = r.here;
    }
      where
        there : (y e : ℕ) (o : Option Trace) → Gives e (upto began y rs) v (upto began y ((h, a) ∷ ts)) o →
            Gives e (upto began y rs) v (upto began y ((h, n) ∷ ts)) o
        there y e o x =
            ⊎_elim
            (λ l. subst (λ k. Gives e (upto began y rs) v k o) (sym (upto_out Trace began y (h, n) ts l))
            (subst (λ k. Gives e (upto began y rs) v k o) (upto_out Trace began y (h, a) ts l) x))
            (λ g. subst (λ k. Gives e (upto began y rs) v k o) (sym (upto_in Trace began y (h, n) ts g))
            (of_rest (next_of s) (EndsThere (Ends s) e) Trace (note s.places)
            (λ q z. first_on (next_of s) (EndsThere (Ends s) e) n a (λ k. on k.0) (only e) Trace (note s.places) (λ n m h. last_pair s n m h.0) h v
            (upto began y ts) q fresh silent z)
            (subst (λ k. Gives e (upto began y rs) v k o) (upto_in Trace began y (h, a) ts g) x)))
            (cases_lt y (began h))

    -- a thread from which no walk leads on is left out
    race_passes : (t : Trace × Pair) (ts : List (Trace × Pair)) → HasNoWalk (next_of s) (Ends s) v (t.1 ∷ []) → Race rs v (t ∷ ts) best → Race rs v ts best
    race_passes t ts none r = record {
      carries = λ y e o sought x. r.carries y e o sought (there y e o x);
      known = r.known;
      rising = rising_swap Trace began rs (t ∷ ts) ts (λ P h. h.1) (rising_tail Trace began rs (t ∷ ts) r.rising).1 r.rising;
      within = within_swap (next_of s) (Ends s) Trace (note s.places) began (note_keeps s.places) same_pair (last_pair s) (onward s) best rs
          (t ∷ ts) ts (λ P h. h.1) r.within;
      later = r.later;
      here = r.here;
    }
      where
        there : (y e : ℕ) (o : Option Trace) → Gives e (upto began y rs) v (upto began y ts) o → Gives e (upto began y rs) v (upto began y (t ∷ ts)) o
        there y e o x =
            ⊎_elim
            (λ l. subst (λ k. Gives e (upto began y rs) v k o) (sym (upto_out Trace began y t ts l)) x)
            (λ g. subst (λ k. Gives e (upto began y rs) v k o) (sym (upto_in Trace began y t ts g))
            (of_rest (next_of s) (EndsThere (Ends s) e) Trace (note s.places)
            (λ q z. passes t (none_to (next_of s) (Ends s) v (t.1 ∷ []) e none) z) x))
            (cases_lt y (began t.0))

  module _ (rest : List Thread) (items : List ℕ) (best : Option Ending) (found : List (Option ℕ)) where
    pub raced_goes : (p a : ℕ) (h : Trace) (ts : List (Trace × Pair)) → ¬ Has items p → note s.places h (p, at) ≡ h → ¬ Ends s (p, at) →
        ((e : ℕ) → IsOnlyWay (next_of s) (EndsThere (Ends s) e) (p, at) (a, at)) → IsSought best (began h) →
        Races s all at rest items ((h, (p, at)) ∷ ts) best found → Races s all at rest items ((h, (a, at)) ∷ ts) best found
    raced_goes p a h ts fresh silent on only sought x =
        subst (λ ts. Race (map pending rest) (pairs at items) ts (leading best found)) (sym (kept_in best (h, (a, at)) ts sought))
        (race_goes (map pending rest) (pairs at items) (leading best found) h (p, at) (a, at) (kept best ts) (λ i. fresh (pairs_has at p items i))
        silent on only
        (subst (λ ts. Race (map pending rest) (pairs at items) ts (leading best found)) (kept_in best (h, (p, at)) ts sought) x))

    raced_passes : (t : Trace × Pair) (ts : List (Trace × Pair)) → HasNoWalk (next_of s) (Ends s) (pairs at items) (t.1 ∷ []) →
        Races s all at rest items (t ∷ ts) best found → Races s all at rest items ts best found
    raced_passes t ts none x =
        ⊎_elim
        (λ sought. race_passes (map pending rest) (pairs at items) (leading best found) t (kept best ts) none
        (subst (λ ts. Race (map pending rest) (pairs at items) ts (leading best found)) (kept_in best t ts sought) x))
        (λ cut. raced_drops s all at rest items best found t ts cut x)
        (sought_or_cut best (began t.0))

    module _ (width last : ℕ) where
      -- a start that isn't sought is left out
      raced_cut : IsCutOff best at → Races s all at rest items (starts_to width at last) best found →
          Races s all at rest items (starts_to width (at + 1) last) best found
      raced_cut cut x =
          subst (λ ts. Race (map pending rest) (pairs at items) ts (leading best found))
          (cut_starts best width at last cut ∙ sym (cut_starts best width (at + 1) last (cut_later best at (at + 1) (omega arith) cut))) x

      -- and one from which no walk leads on
      pub raced_quiet : (is_open : Bool) → (is_open ≡ false → IsCutOff best at) → (is_open ≡ true → at ≤ last → IsDead s (pairs at items) (0, at)) →
          Races s all at rest items (starts_to width at last) best found → Races s all at rest items (starts_to width (at + 1) last) best found
      raced_quiet false cut dead x = raced_cut (cut refl) x
      raced_quiet true cut dead x =
          ⊎_elim
          (λ past. subst (λ ts. Races s all at rest items ts best found)
          (starts_over width at last past ∙ sym (starts_over width (at + 1) last (omega (arith, past)))) x)
          (λ le. raced_passes (sets_out width at) (starts_to width (at + 1) last) (dead refl le)
          (subst (λ ts. Races s all at rest items ts best found) (starts_next width at last le) x))
          (cases_lt last at)

module _ (s : Sight) (all : List (Trace × Pair)) (at width last : ℕ) (best : Option Ending) (found : List (Option ℕ)) where
  -- a thread reads a byte at a place to which it is led
  raced_reads : (p q m start : ℕ) (slots : List (Option ℕ)) (ts : List (Trace × Pair)) → LeadsTo s at p q → IsMove s (q, at) (Reads m (at + 1)) →
      IsSought best start → Races s all at [] [] ((trace start slots, (p, at)) ∷ ts) best found →
      Races s all at (record { place = m; at = at + 1; start = start; slots = slots } ∷ []) (q ∷ []) ts best found
  raced_reads p q m start slots ts leads move sought x =
      raced_waits s all at [] (q ∷ []) best found (record { place = m; at = at + 1; start = start; slots = slots }) ts (omega arith) sought
      (plain_on s all at [] [] best found q start slots (λ i. i) sought ((m, at + 1) ∷ []) ts move.0 move.1
      (leads.races (trace start slots) all ts best found sought x))

  -- A lone thread reads a byte, and no walk leads on from the start there but over the place where it reads.
  pub raced_alone : (is_open : Bool) (p q m start : ℕ) (slots : List (Option ℕ)) → LeadsTo s at p q → IsMove s (q, at) (Reads m (at + 1)) →
      (is_open ≡ false → IsCutOff best at) → (is_open ≡ true → at ≤ last → IsDead s ((q, at) ∷ []) (0, at)) → IsSought best start →
      Races s all at [] [] ((trace start slots, (p, at)) ∷ starts_to width at last) best found →
      Races s all (at + 1) [] [] ((trace start slots, (m, at + 1)) ∷ starts_to width (at + 1) last) best found
  raced_alone is_open p q m start slots leads move cut dead sought x =
      let t : Thread = record { place = m; at = at + 1; start = start; slots = slots } in
      raced_turns s all at (t ∷ []) (q ∷ []) best found (starts_to width (at + 1) last) (waiting_past true width at last)
      (raced_quiet s all at (t ∷ []) (q ∷ []) best found width last is_open cut dead
      (raced_reads p q m start slots (starts_to width at last) leads move sought x))

  -- the walk of a lone thread ends
  pub raced_ends : (p q k start : ℕ) (slots : List (Option ℕ)) → LeadsTo s at p q → IsMove s (q, at) (Matches k) → start < at →
      EndedBefore at (leading best found) → IsSought best start →
      Races s all at [] [] ((trace start slots, (p, at)) ∷ starts_to width at last) best found →
      Races s all (at + 1) [] [] (starts_to width (at + 1) last) (Some (record { pattern = k; start = start; end = at })) slots
  raced_ends p q k start slots leads move begun before sought x =
      let new : Ending = record { pattern = k; start = start; end = at } in
      raced_turns s all at [] (q ∷ []) (Some new) slots (starts_to width (at + 1) last) (waiting_past true width at last)
      (raced_cut s all at [] (q ∷ []) (Some new) slots width last begun
      (raced_matches s all at [] [] best found q k start slots (starts_to width at last) (λ i. i) move.0 move.1 before sought
      (leads.races (trace start slots) all (starts_to width at last) best found sought x)))

-- a thread sets out that reads one byte
pub raced_out : (s : Sight) (all : List (Trace × Pair)) (at width last q m : ℕ) (found : List (Option ℕ)) → at ≤ last → LeadsTo s at 0 q →
    IsMove s (q, at) (Reads m (at + 1)) → Races s all at [] [] (starts_to width at last) None found →
    Races s all (at + 1) [] [] ((trace at (replicate width None), (m, at + 1)) ∷ starts_to width (at + 1) last) None found
raced_out s all at width last q m found low leads move x =
    let t : Thread = record { place = m; at = at + 1; start = at; slots = replicate width None } in
    raced_turns s all at (t ∷ []) (q ∷ []) None found (starts_to width (at + 1) last) (waiting_past true width at last)
    (raced_reads s all at width last None found 0 q m at (replicate width None) (starts_to width (at + 1) last) leads move tt
    (subst (λ ts. Races s all at [] [] ts None found) (starts_next width at last low) x))

-- The best so far ended before the position, and its start is not sought there.

pub ahead_sought : (best : Option Ending) (start at : ℕ) → IsAhead best start at → IsSought best start
ahead_sought None start at ahead = tt
ahead_sought (Some r) start at ahead = ahead.0

pub ahead_begun : (best : Option Ending) (start at : ℕ) → IsAhead best start at → start < at
ahead_begun None start at ahead = ahead
ahead_begun (Some r) start at ahead = let a = ahead.0 in let b = ahead.1 in omega (arith, a, b)

pub ahead_before : (best : Option Ending) (found : List (Option ℕ)) (start at : ℕ) → IsAhead best start at → EndedBefore at (leading best found)
ahead_before None found start at ahead = tt
ahead_before (Some r) found start at ahead = ahead.2

pub ahead_later : (best : Option Ending) (start x y : ℕ) → x ≤ y → IsAhead best start x → IsAhead best start y
ahead_later None start x y le ahead = omega (arith, le, ahead)
ahead_later (Some r) start x y le ahead = let a = ahead.1 in let b = ahead.2 in (ahead.0, omega (arith, le, a), omega (arith, le, b))

pub ahead_cut : (best : Option Ending) (start at : ℕ) → IsAhead best start at → is_none best ≡ false → IsCutOff best at
ahead_cut None start at ahead e = absurd (true≢false e)
ahead_cut (Some r) start at ahead e = ahead.1

module _ (s : Sight) (all : List (Trace × Pair)) (at width last : ℕ) (curr : List Thread) where
  -- The walk of the only thread ends.
  pub raced_ends_alone : (k : ℕ) (best : Option Ending) (found slots : List (Option ℕ)) (t : Thread) (next : List Thread) → EndsAlone s at curr k →
      curr ≡ t ∷ [] → slots ≡ t.slots → next ≡ [] → IsAhead best t.start at →
      Races s all at [] [] (map pending curr ++ starts_to width at last) best found →
      Races s all (at + 1) [] [] (map pending next ++ starts_to width (at + 1) last) (Some (record { pattern = k; start = t.start; end = at })) slots
  raced_ends_alone k best found slots t next e one same none ahead x =
      let is : t ≡ e.thread = one_is e.thread t curr one e.only in
      let here : e.thread.start ≡ t.start = ap (λ (u : Thread). u.start) (sym is) in
      let held : e.thread.slots ≡ slots = ap (λ (u : Thread). u.slots) (sym is) ∙ sym same in
      let forward = subst (λ x. IsAhead best x at) (sym here) ahead in
      subst (λ ts. Races s all (at + 1) [] [] (map pending ts ++ starts_to width (at + 1) last) (Some (record { pattern = k; start = t.start; end = at })) slots)
      (sym none)
      (subst (λ x. Races s all (at + 1) [] [] (starts_to width (at + 1) last) (Some (record { pattern = k; start = x; end = at })) slots) here
      (subst (λ l. Races s all (at + 1) [] [] (starts_to width (at + 1) last) (Some (record { pattern = k; start = e.thread.start; end = at })) l) held
      (raced_ends s all at width last best found e.thread.place e.place k e.thread.start e.thread.slots e.leads e.move
      (ahead_begun best e.thread.start at forward) (ahead_before best found e.thread.start at forward) (ahead_sought best e.thread.start at forward)
      (subst (λ y. Races s all at [] [] ((trace e.thread.start e.thread.slots, (e.thread.place, y)) ∷ starts_to width at last) best found) e.here
      (subst (λ ts. Races s all at [] [] (map pending ts ++ starts_to width at last) best found) e.only x)))))
    where
      one_is : (u t : Thread) (ts : List Thread) → ts ≡ t ∷ [] → ts ≡ u ∷ [] → t ≡ u
      one_is u t ts a b = let both : t ∷ [] ≡ u ∷ [] = sym a ∙ b in cc

  -- A thread sets out that reads one byte, where none is under way.
  pub raced_sets_out : (n root q m : ℕ) (found slots : List (Option ℕ)) (next : List Thread) → length curr ≡ 0 → at ≤ last → root ≡ 0 →
      ReadsOne s n at root (q, m) → slots ≡ replicate width None →
      next ≡ record { place = m; at = at + 1; start = at; slots = slots } ∷ [] →
      Races s all at [] [] (map pending curr ++ starts_to width at last) None found →
      Races s all (at + 1) [] [] (map pending next ++ starts_to width (at + 1) last) None found
  raced_sets_out n root q m found slots next none low zero_root reads empty is x =
      subst (λ ts. Races s all (at + 1) [] [] (map pending ts ++ starts_to width (at + 1) last) None found) (sym is)
      (subst (λ l. Races s all (at + 1) [] [] ((trace at l, (m, at + 1)) ∷ starts_to width (at + 1) last) None found) (sym empty)
      (raced_out s all at width last q m found low (subst (λ r. LeadsTo s at r q) zero_root reads.leads) reads.move
      (subst (λ ts. Races s all at [] [] (map pending ts ++ starts_to width at last) None found) (no_threads curr none) x)))
