-- The pass for the longest walk of the least start over all positions.
use Rattle.std.proofs.Common.{◌≡◌, ℕ, zero, suc, ◌+◌, ◌-◌, ◌<◌, ◌≤◌, List, [], ◌∷◌, ◌++◌, length, map, inl, inr, ⊎_elim, sym, subst, ap, ◌∙◌, refl, arith, true, IsTrue, Option, Some, None, option_map}
use Rattle.std.proofs.lemmas.Bool.{cases_lt}
use Rattle.rc_walks.specs.Walks.{Pair, HasNoWalk}
use Rattle.rc_walks.specs.Threads.{passes, AllPast, Pends}
use Rattle.rc_walks.proofs.ThreadLemmas.{of_rest}
use Rattle.rc_program.proofs.LongestLemmas.{none_to}
use Rattle.rc_program.proofs.WayLemmas.{same_pair}
use Rattle.rc_pikevm.specs.Sights.{Sight, ends, next_of, HasNoWalkFrom}
use Rattle.rc_pikevm.specs.Threads.{Thread}
use Rattle.rc_pikevm.specs.Trace.{Trace, note, starts, sets_out}
use Rattle.rc_pikevm.specs.Passing.{pending, best_of}
use Rattle.rc_pikevm.specs.Races.{EndsThere, IsLongestOf, ended, longest, next, upto, Each, AreApart, AreReady, IsRacing, began, leading, kept, Races, IsCutOff, starts_to, GivesLongest}
use Rattle.rc_pikevm.specs.declared.pass.Ending.{Ending}
use Rattle.rc_pikevm.proofs.SightLemmas.{last_pair}
use Rattle.rc_pikevm.proofs.MoveLemmas.{Ends, onward}
use Rattle.rc_pikevm.proofs.PassingLemmas.{no_threads}
use Rattle.rc_pikevm.proofs.StartLemmas.{waiting_next, waiting_over, waiting_past}
use Rattle.rc_pikevm.proofs.RaceListLemmas.{upto_in, upto_out, upto_none, upto_append, upto_all, past_upto}
use Rattle.rc_pikevm.proofs.RaceLemmas.{race_begins, race_turns, race_ends, apart_rising}
use Rattle.rc_pikevm.proofs.RaceMoveLemmas.{note_keeps}

-- The starts that are still to come.

pub starts_next : (width at last : ℕ) → at ≤ last → starts_to width at last ≡ sets_out width at ∷ starts_to width (at + 1) last
starts_next width at last h = waiting_next true width at last refl h

pub starts_over : (width at last : ℕ) → last < at → starts_to width at last ≡ []
starts_over width at last h = waiting_over true width at last h

each_later : (width x y count : ℕ) → x < y → Each began (λ k. x < k) (starts width y count)
each_later width x y zero l = tt
each_later width x y (suc count) l = (l, each_later width x (y + 1) count (omega (arith, l)))

each_from : (width x y count : ℕ) → x ≤ y → Each began (λ k. x ≤ k) (starts width y count)
each_from width x y zero l = tt
each_from width x y (suc count) l = (l, each_from width x (y + 1) count (omega (arith, l)))

starts_apart : (width x count : ℕ) → AreApart began (starts width x count)
starts_apart width x zero = tt
starts_apart width x (suc count) = (each_later width x (x + 1) count (omega arith), starts_apart width (x + 1) count)

starts_ready : (width x y count : ℕ) → x ≤ y → AreReady x (starts width y count)
starts_ready width x y zero l = tt
starts_ready width x y (suc count) l = (l, starts_ready width x (y + 1) count (omega (arith, l)))

none_kept : (best : Option Ending) → kept best [] ≡ []
none_kept None = refl
none_kept (Some r) = refl

-- of later starts none is kept
pub cut_starts : (best : Option Ending) (width at last : ℕ) → IsCutOff best at → kept best (starts_to width at last) ≡ []
cut_starts None width at last cut = absurd cut
cut_starts (Some r) width at last cut = upto_none Trace began at r.start (starts_to width at last) cut (each_from width at at (last + 1 - at) (omega arith))

each_left : (Holds : ℕ → Type 0) (rs ts : List (Trace × Pair)) → Each began Holds (rs ++ ts) → Each began Holds rs
each_left Holds [] ts e = tt
each_left Holds (r ∷ rs) ts e = (e.0, each_left Holds rs ts e.1)

module _ (s : Sight) (all : List (Trace × Pair)) where
  abbrev Race : ℕ → List (Trace × Pair) → List Pair → List (Trace × Pair) → Option (Trace × ℕ) → Type 0
  Race at rs v ts best = IsRacing (next_of s) (λ n. IsTrue (ends s n)) Trace (note s.places) began all at rs v ts best

  -- all threads that wait go on at the next position
  pub raced_turns : (at : ℕ) (rest : List Thread) (items : List ℕ) (best : Option Ending) (found : List (Option ℕ)) (ts : List (Trace × Pair)) →
      AllPast at ts → Races s all at rest items ts best found → Races s all (at + 1) [] [] (map pending rest ++ ts) best found
  raced_turns at rest items None found ts past x =
      race_turns (next_of s) (Ends s) Trace (note s.places) began (note_keeps s.places) same_pair (last_pair s) (onward s) all at (map pending rest) _ None ts past x
  raced_turns at rest items (Some r) found ts past x =
      subst (λ ts. Race (at + 1) [] [] ts (leading (Some r) found)) kept_all
      (race_turns (next_of s) (Ends s) Trace (note s.places) began (note_keeps s.places) same_pair (last_pair s) (onward s) all at (map pending rest) _
      (leading (Some r) found) (kept (Some r) ts) (past_upto Trace began at r.start ts past) x)
    where
      kept_all : map pending rest ++ kept (Some r) ts ≡ kept (Some r) (map pending rest ++ ts)
      kept_all =
          ap (λ rs. rs ++ kept (Some r) ts) (sym (upto_all Trace began r.start (map pending rest)
          (each_left (λ y. y ≤ r.start) (map pending rest) (kept (Some r) ts) x.within)))
          ∙ sym (upto_append Trace began r.start (map pending rest) ts)

  -- a start without a walk is passed
  start_passes : (at : ℕ) (t : Trace × Pair) (ts : List (Trace × Pair)) → HasNoWalk (next_of s) (Ends s) [] (t.1 ∷ []) → AllPast at ts →
      Race at [] [] (t ∷ ts) None → Race (at + 1) [] [] ts None
  start_passes at t ts none past r =
      race_turns (next_of s) (Ends s) Trace (note s.places) began (note_keeps s.places) same_pair (last_pair s) (onward s) all at [] [] None ts past (record {
        carries = λ y e o sought x. r.carries y e o sought (there y e o x);
        known = r.known;
        rising = r.rising.1;
        within = tt;
        later = tt;
        here = r.here;
      })
    where
      there : (y e : ℕ) (o : Option Trace) → Pends (next_of s) (EndsThere (Ends s) e) Trace (note s.places) [] [] (upto began y ts) None o →
          Pends (next_of s) (EndsThere (Ends s) e) Trace (note s.places) [] [] (upto began y (t ∷ ts)) None o
      there y e o x =
          ⊎_elim
          (λ l. subst (λ k. Pends (next_of s) (EndsThere (Ends s) e) Trace (note s.places) [] [] k None o) (sym (upto_out Trace began y t ts l)) x)
          (λ g. subst (λ k. Pends (next_of s) (EndsThere (Ends s) e) Trace (note s.places) [] [] k None o) (sym (upto_in Trace began y t ts g))
          (of_rest (next_of s) (EndsThere (Ends s) e) Trace (note s.places)
          (λ q z. passes t (none_to (next_of s) (Ends s) [] (t.1 ∷ []) e none) z) x))
          (cases_lt y (began t.0))

  -- starts without a walk are passed
  jumps : (width last count at : ℕ) → ((y : ℕ) → at ≤ y → y < at + count → HasNoWalkFrom s y) →
      Race at [] [] (starts_to width at last) None → Race (at + count) [] [] (starts_to width (at + count) last) None
  jumps width last zero at none r =
      let e : at ≡ at + 0 = omega arith in subst (λ x. Race x [] [] (starts_to width x last) None) e r
  jumps width last (suc count) at none r =
      let e : at + 1 + count ≡ at + suc count = omega arith in
      subst (λ x. Race x [] [] (starts_to width x last) None) e
      (jumps width last count (at + 1) (λ y a b. none y (omega (arith, a)) (omega (arith, b)))
      (⊎_elim
      (λ past. subst (λ ts. Race (at + 1) [] [] ts None) (sym (starts_over width (at + 1) last (omega (arith, past))))
      (race_turns (next_of s) (Ends s) Trace (note s.places) began (note_keeps s.places) same_pair (last_pair s) (onward s) all at [] [] None [] tt
      (subst (λ ts. Race at [] [] ts None) (starts_over width at last past) r)))
      (λ le. start_passes at (sets_out width at) (starts_to width (at + 1) last) (none at (omega arith) (omega arith)) (waiting_past true width at last)
      (subst (λ ts. Race at [] [] ts None) (starts_next width at last le) r))
      (cases_lt last at)))

  pub raced_jumps : (width last at x : ℕ) → at ≤ x → ((y : ℕ) → at ≤ y → y < x → HasNoWalkFrom s y) →
      Race at [] [] (starts_to width at last) None → Race x [] [] (starts_to width x last) None
  raced_jumps width last at x low none r =
      let e : at + (x - at) ≡ x = omega (arith, low) in
      subst (λ z. Race z [] [] (starts_to width z last) None) e
      (jumps width last (x - at) at (λ y a b. none y a (omega (arith, b, low))) r)

-- of all starts the least that has a walk decides
module _ (s : Sight) (width from : ℕ) where
  starts_give : (x count last : ℕ) {o : Option Trace} → from ≤ x → last + 1 ≡ x + count → ((y : ℕ) → from ≤ y → y < x → HasNoWalkFrom s y) →
      IsLongestOf (next_of s) (Ends s) Trace (note s.places) (starts width x count) o → GivesLongest s width from last o
  starts_give x zero last low sum none ended = inl (refl, λ y l h. none y l (omega (arith, sum, h)))
  starts_give x (suc count) last low sum none (longest t w l) = inr (x, w, low, omega (arith, sum), l, none, refl)
  starts_give x (suc count) last low sum none (next t here rest) =
      starts_give (x + 1) count last (omega (arith, low)) (omega (arith, sum))
      (λ y l h. ⊎_elim (λ b. none y l b) (λ ge. let e : x ≡ y = omega (arith, h, ge) in subst (HasNoWalkFrom s) e here) (cases_lt y x)) rest

leads_to : (best : Option Ending) (found : List (Option ℕ)) → option_map (λ (b : Trace × ℕ). b.0) (leading best found) ≡ best_of best found
leads_to None found = refl
leads_to (Some r) found = refl

module _ (s : Sight) (width from last : ℕ) where
  abbrev Runs : ℕ → List Thread → Option Ending → List (Option ℕ) → Type 0
  Runs at curr best found = Races s (starts_to width from last) at [] [] (map pending curr ++ starts_to width at last) best found

  pub runs_begin : (curr : List Thread) (found : List (Option ℕ)) → curr ≡ [] → Runs from curr None found
  runs_begin curr found no_items =
      subst (λ ts. Runs from ts None found) (sym no_items)
      (race_begins (next_of s) (Ends s) Trace (note s.places) began (note_keeps s.places) same_pair (last_pair s) (onward s) (starts_to width from last) from
      (starts_ready width from from (last + 1 - from) (omega arith))
      (apart_rising (next_of s) (Ends s) Trace (note s.places) began (note_keeps s.places) same_pair (last_pair s) (onward s) (starts_to width from last)
      (starts_apart width from (last + 1 - from))))

  -- nothing is left to go on
  pub runs_done : (at : ℕ) (curr : List Thread) (best : Option Ending) (found : List (Option ℕ)) → Runs at curr best found → length curr ≡ 0 →
      kept best (starts_to width at last) ≡ [] → from ≤ last → GivesLongest s width from last (best_of best found)
  runs_done at curr best found run none no_starts low =
      starts_give s width from from (last + 1 - from) last (omega arith) (omega (arith, low)) (λ y l h. absurd (omega (arith, l, h)))
      (subst (IsLongestOf (next_of s) (Ends s) Trace (note s.places) (starts_to width from last)) (leads_to best found)
      (race_ends (next_of s) (Ends s) Trace (note s.places) began (note_keeps s.places) same_pair (last_pair s) (onward s) (starts_to width from last) at []
      (leading best found) (starts_apart width from (last + 1 - from))
      (subst (λ ts. IsRacing (next_of s) (Ends s) Trace (note s.places) began (starts_to width from last) at [] [] ts (leading best found)) no_starts
      (subst (λ ts. Runs at ts best found) (no_threads curr none) run))))

  -- no start is left
  pub starts_past : (best : Option Ending) (at : ℕ) → last < at → kept best (starts_to width at last) ≡ []
  starts_past best at past = ap (kept best) (starts_over width at last past) ∙ none_kept best

  -- an idle pass goes on at a later position, where no start between has a walk
  pub runs_skip : (at x : ℕ) (curr : List Thread) (found : List (Option ℕ)) → Runs at curr None found → length curr ≡ 0 → at ≤ x →
      ((y : ℕ) → at ≤ y → y < x → HasNoWalkFrom s y) → Runs x curr None found
  runs_skip at x curr found run none low no_walk =
      subst (λ ts. Runs x ts None found) (sym (no_threads curr none))
      (raced_jumps s (starts_to width from last) width last at x low no_walk (subst (λ ts. Runs at ts None found) (no_threads curr none) run))
