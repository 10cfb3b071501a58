-- Places from which no walk leads on, and threads that go on alone.
use Rattle.std.proofs.Common.{◌≡◌, ℕ, ◌+◌, ◌<◌, ◌≤◌, ◌-◌, ◌*◌, List, [], ◌∷◌, length, map, inl, inr, ⊎_elim, sym, subst, ap, ◌∙◌, refl, arith, Bool, true, false, not, true≢false, IsTrue, Option, Some, None, slice_get, is_none, is_some, replicate}
use Rattle.std.proofs.lemmas.Bool.{cases_lt}
use Rattle.std.proofs.lemmas.List.{length-map}
use Rattle.std.proofs.lemmas.Option.{none-some, same_Some}
use Rattle.std.proofs.Math.Nat.{mul-add, mul-le-mul_right}
use Rattle.rc_walks.specs.Walks.{Pair, IsIn, IsWalk, HasNoWalk}
use Rattle.rc_walks.specs.Threads.{passes}
use Rattle.rc_walks.proofs.WalkLemmas.{drop_way}
use Rattle.rc_walks.proofs.StackLemmas.{no_ways, dead_if_passed, dead_if_tried}
use Rattle.rc_walks.proofs.ThreadLemmas.{fewer_passed, of_rest}
use Rattle.std.specs.Prelude.{All}
use Rattle.rc_program.specs.Laws.{IsClosed, targets}
use Rattle.rc_program.specs.Columns.{column_at}
use Rattle.rc_program.specs.Program.{Place, choice, slot, place_at, ways_out, pair_at, is_match_place}
use Rattle.rc_program.specs.Text.{holds, ahead}
use Rattle.rc_program.specs.Answer.{only}
use Rattle.rc_pikevm.specs.Sights.{Sight, ends, ends_to, next_of, next_to, HasNoWalkFrom}
use Rattle.rc_pikevm.specs.Moves.{IsMove}
use Rattle.rc_pikevm.specs.Threads.{Thread, ThreadList, thread_of}
use Rattle.rc_pikevm.specs.Entrances.{IsOnWay}
use Rattle.rc_pikevm.proofs.LineLemmas.{no_line, one_in_line}
use Rattle.rc_pikevm.proofs.EntranceLemmas.{choice_on, stops_shut, carries_on}
use Rattle.rc_pikevm.specs.Trace.{Trace, note, note_at, trace, done, sets_out}
use Rattle.rc_pikevm.specs.Passing.{IsMoveInside, pairs, Carries, CarriesTo, waiting_starts, AllFrom, Pending, best_of, IsCounted, IsLined}
use Rattle.rc_pikevm.specs.Near.{seen_from, size}
use Rattle.rc_text.specs.Text.{Searched}
use Rattle.rc_program.specs.Places.{place_of}
use Rattle.rc_pikevm.specs.declared.spot.Spot.{Spot}
use Rattle.rc_pikevm.specs.declared.pass.Ending.{Ending}
use Rattle.rc_pikevm.specs.declared.threads.BareThread.{BareThread}
use Rattle.rc_pikevm.specs.declared.moves.Move.{Move}
use Rattle.rc_pikevm.proofs.GrownLemmas.{move_inside}
use Rattle.rc_pikevm.specs.Roots.{StandsFor}
use Rattle.rc_pikevm.specs.Alone.{EndsAlone, EndsBy, IsChosen, IsDead, LeadsTo, ReadsOne}
use Rattle.rc_pikevm.specs.declared.moves.Move.TheVariants.{Fork, Save, Stays, Reads, DeadEnd}
use Rattle.rc_pikevm.proofs.MoveLemmas.{slot_on, plain_on, matched, waited, turned}
use Rattle.rc_pikevm.proofs.PassingLemmas.{no_threads}
use Rattle.rc_pikevm.specs.Races.{EndsThere}
use Rattle.rc_pikevm.proofs.RaceMoveLemmas.{raced_on}
use Rattle.rc_pikevm.proofs.RaceAloneLemmas.{stays_there, first_there, second_there, raced_goes}
use Rattle.rc_pikevm.proofs.RootLemmas.{carries_root}
use Rattle.rc_pikevm.proofs.OnwardLemmas.{IsOnlyWay, none_on, only_one, only_first, only_second, carries_by}
use Rattle.rc_pikevm.proofs.StartLemmas.{waiting_next, waiting_over, waiting_past}

-- the places that a move at a spot names are places of the program
pub inside_program : (spot : Spot) (text : Searched) (p : ℕ) (move : Move) → IsMove (seen_from spot text) (p, spot.at) move →
    IsMoveInside (size spot.course) move
inside_program spot text p move m =
    subst (λ n. IsMoveInside n move) (length-map spot.course.program.now.places.items place_of)
    (move_inside (seen_from spot text) p spot.at move spot.course.program.now.runnable.closed m)

-- no walk leads on from the place that is still to be looked at, if there is one
abbrev pub Dies : Sight → ℕ → List Pair → Option ℕ → Type 0
Dies s at passed None = Unit {0}
Dies s at passed (Some p) = IsDead s passed (p, at)

pub dies_none : (s : Sight) (at : ℕ) (passed : List Pair) (o : Option ℕ) → is_some o ≡ false → Dies s at passed o
dies_none s at passed None e = tt
dies_none s at passed (Some p) e = absurd (true≢false e)

-- it is one of the n places
abbrev pub AreIn : ℕ → Option ℕ → Type 0
AreIn n None = Unit {0}
AreIn n (Some p) = p < n

module _ (s : Sight) (at : ℕ) where
  abbrev Ends : Pair → Type 0
  Ends n = IsTrue (ends s n)

  open_here : (p : ℕ) → ends s (p, at) ≡ false → ¬ Ends (p, at)
  open_here p on e = true≢false (sym e ∙ on)

  module _ (passed : List Pair) where
    dead_over : (p : ℕ) (ms : List Pair) → next_of s (p, at) ≡ ms → ends s (p, at) ≡ false → HasNoWalk (next_of s) Ends passed ms → IsDead s passed (p, at)
    dead_over p ms out on none v x =
        dead_if_tried (next_of s) Ends (open_here p on)
        (λ w r. none w (fewer_passed (next_of s) Ends (p, at) (subst (λ k. IsWalk (next_of s) Ends ((p, at) ∷ passed) k w) out r))) x

    pub dead_tried : (p : ℕ) → IsIn (p, at) passed → IsDead s passed (p, at)
    dead_tried p i v x = dead_if_passed (next_of s) Ends i x

    pub dead_stops : (p : ℕ) → IsMove s (p, at) DeadEnd → IsDead s passed (p, at)
    dead_stops p m = dead_over p [] m.0 m.1 (λ v x. no_ways (next_of s) Ends x)

    pub dead_reads : (p q to : ℕ) → IsMove s (p, at) (Reads q to) → IsDead s passed (q, to) → IsDead s passed (p, at)
    dead_reads p q to m d = dead_over p ((q, to) ∷ []) m.0 m.1.on d

    pub dead_stays : (p q : ℕ) → IsMove s (p, at) (Stays q) → IsDead s passed (q, at) → IsDead s passed (p, at)
    dead_stays p q m d = dead_over p ((q, at) ∷ []) m.0 m.1.on d

    pub dead_saves : (p k q : ℕ) → IsMove s (p, at) (Save k q) → IsDead s passed (q, at) → IsDead s passed (p, at)
    dead_saves p k q m d =
        dead_over p ((q, at) ∷ []) (ap (λ r. map (pair_at at) (ways_out (λ l. holds s.text l at) (ahead s.text s.hi at) r)) m.1)
        (ap (is_match_place (only s.anchoring)) m.1 ∙ slot_on (only s.anchoring) m.0 q) d

    pub dead_slot : (p k q : ℕ) → place_at s.places p ≡ slot k q → IsDead s passed (q, at) → IsDead s passed (p, at)
    dead_slot p k q e d = dead_saves p (column_at s.places p) q (k, e, refl) d

    pub dead_forks : (p a b : ℕ) → IsMove s (p, at) (Fork a b) → IsDead s passed (a, at) → IsDead s passed (b, at) → IsDead s passed (p, at)
    dead_forks p a b m d e = dead_over p ((a, at) ∷ (b, at) ∷ []) m.0 m.1.on (λ v x. e v (drop_way (next_of s) Ends (a, at) d x))

  -- nor from a choice where none does from the first way, and the second is shut
  pub dead_on : (passed : List Pair) (p a : ℕ) → IsOnWay s at p a → IsDead s passed (a, at) → IsDead s passed (p, at)
  dead_on passed p a way d =
      ⊎_elim (λ e. subst (λ z. IsDead s passed (z, at)) e d)
      (λ r.
      let b : ℕ = r.0 in
      ⊎_elim (λ e. dead_forks passed p a b (forks_by p a b e) d (r.2 None tt passed)) (λ e. dead_forks passed p b a (forks_by p b a e) (r.2 None tt passed) d) r.1) way
    where
      forks_by : (p a b : ℕ) → place_at s.places p ≡ choice (a ∷ b ∷ []) → IsMove s (p, at) (Fork a b)
      forks_by p a b is = (
        ap (λ r. map (pair_at at) (ways_out (λ l. holds s.text l at) (ahead s.text s.hi at) r)) is,
        record {
          silent = λ h. ap (λ q. note_at (column_at s.places p) q h at) is;
          on = ap (is_match_place (only s.anchoring)) is ∙ choice_on (only s.anchoring) (a ∷ b ∷ []);
        },
      )

  -- and no walk sets out
  pub no_start : (root way : ℕ) → StandsFor s root → IsOnWay s at root way → IsDead s [] (way, at) → HasNoWalkFrom s at
  no_start root way stands on d = (stands at).1 (dead_on [] root way on d)

  -- no walk leads on from a place where none does from the only way on
  dead_by : (p a : ℕ) → ends s (p, at) ≡ false → IsOnlyWay (next_of s) Ends (p, at) (a, at) → IsDead s [] (a, at) → IsDead s [] (p, at)
  dead_by p a on only d = none_on (next_of s) Ends (p, at) (a, at) (open_here p on) only [] (λ v x. d v (fewer_passed (next_of s) Ends (p, at) x))

  pub none_first : (p a b : ℕ) → IsMove s (p, at) (Fork a b) → IsDead s ((p, at) ∷ []) (b, at) → IsDead s [] (a, at) → IsDead s [] (p, at)
  none_first p a b m d e = dead_by p a m.1.on (only_first (next_of s) Ends (p, at) (a, at) (b, at) d m.0) e

  pub none_second : (p a b : ℕ) → IsMove s (p, at) (Fork a b) → IsDead s ((p, at) ∷ []) (a, at) → IsDead s [] (b, at) → IsDead s [] (p, at)
  none_second p a b m d e = dead_by p b m.1.on (only_second (next_of s) Ends (p, at) (b, at) (a, at) d m.0) e

  -- how a thread goes on by the only way
  leads_only : (p a : ℕ) → ¬ Ends (p, at) → ((h : Trace) → note s.places h (p, at) ≡ h) → IsOnlyWay (next_of s) Ends (p, at) (a, at) →
      ((e : ℕ) → IsOnlyWay (next_of s) (EndsThere Ends e) (p, at) (a, at)) → LeadsTo s at p a
  leads_only p a on silent only there = record {
    carries = λ h rest below best o x. carries_by None s at rest [] best o p a h below (λ i. i) on only (silent h) x;
    races = λ h all below best found sought x. raced_goes s all at [] [] best found p a h below (λ i. i) (silent h) on there sought x;
  }

  -- how a thread goes on by a move
  pub leads_stays : (p q : ℕ) → IsMove s (p, at) (Stays q) → LeadsTo s at p q
  leads_stays p q m =
      leads_only p q (open_here p m.1.on) m.1.silent (only_one (next_of s) Ends (p, at) (q, at) m.0) (λ e. stays_there s at p q m.0 e)

  pub leads_first : (p a b : ℕ) → IsMove s (p, at) (Fork a b) → IsDead s ((p, at) ∷ []) (b, at) → LeadsTo s at p a
  leads_first p a b m d =
      leads_only p a (open_here p m.1.on) m.1.silent (only_first (next_of s) Ends (p, at) (a, at) (b, at) d m.0) (λ e. first_there s at p a b d m.0 e)

  pub leads_second : (p a b : ℕ) → IsMove s (p, at) (Fork a b) → IsDead s ((p, at) ∷ []) (a, at) → LeadsTo s at p b
  leads_second p a b m d =
      leads_only p b (open_here p m.1.on) m.1.silent (only_second (next_of s) Ends (p, at) (b, at) (a, at) d m.0) (λ e. second_there s at p b a d m.0 e)

  -- and by the only one of two ways
  pub leads_chosen : (p a b q : ℕ) → IsMove s (p, at) (Fork a b) → IsChosen s at p a b q → LeadsTo s at p q
  leads_chosen p a b q m way =
      ⊎_elim (λ w. subst (λ z. LeadsTo s at p z) (sym w.0) (leads_first p a b m w.1))
      (λ w. subst (λ z. LeadsTo s at p z) (sym w.0) (leads_second p a b m w.1)) way

  pub none_chosen : (p a b q : ℕ) → IsMove s (p, at) (Fork a b) → IsChosen s at p a b q → IsDead s [] (q, at) → IsDead s [] (p, at)
  none_chosen p a b q m way d =
      ⊎_elim (λ w. none_first p a b m w.1 (subst (λ z. IsDead s [] (z, at)) w.0 d))
      (λ w. none_second p a b m w.1 (subst (λ z. IsDead s [] (z, at)) w.0 d)) way

  pub leads_on : (p a : ℕ) → IsOnWay s at p a → LeadsTo s at p a
  leads_on p a way = record {
    carries = λ h rest below best o x. carries_on s at None tt rest [] best o p a h below (λ i. i) way x;
    races = λ h all below best found sought x. raced_on s all at [] [] best found p a h below (λ i. i) way sought x;
  }

  pub leads_then : (p q r : ℕ) → LeadsTo s at p q → LeadsTo s at q r → LeadsTo s at p r
  leads_then p q r f g = record {
    carries = λ h rest below best o x. f.carries h rest below best o (g.carries h rest below best o x);
    races = λ h all below best found sought x. g.races h all below best found sought (f.races h all below best found sought x);
  }

  module _ (width last : ℕ) (best o : Option Trace) where
    -- a start from which no walk leads on is left out
    pub quiet_start : (limit : Option ℕ) (is_open : Bool) (rest : List Thread) (items : List ℕ) →
        (is_open ≡ true → at ≤ last → HasNoWalk (next_to limit s) (λ n. IsTrue (ends_to limit s n)) (pairs at items) ((0, at) ∷ [])) →
        CarriesTo limit s at rest items (waiting_starts is_open width (at + 1) last) best o →
        CarriesTo limit s at rest items (waiting_starts is_open width at last) best o
    quiet_start limit false rest items dead x = x
    quiet_start limit true rest items dead x =
        ⊎_elim
        (λ past. subst (λ ts. CarriesTo limit s at rest items ts best o)
        (waiting_over true width (at + 1) last (omega (arith, past)) ∙ sym (waiting_over true width at last past)) x)
        (λ le. subst (λ ts. CarriesTo limit s at rest items ts best o) (sym (waiting_next true width at last refl le))
        (of_rest (next_to limit s) (λ n. IsTrue (ends_to limit s n)) Trace (note s.places) (λ q y. passes (sets_out width at) (dead refl le) y) x))
        (cases_lt last at)

    -- A lone thread reads a byte, and no walk leads on from the start there but over the place where it reads.
    pub reads_alone : (is_open : Bool) (p q m start : ℕ) (slots : List (Option ℕ)) → LeadsTo s at p q → IsMove s (q, at) (Reads m (at + 1)) →
        (is_open ≡ true → at ≤ last → IsDead s ((q, at) ∷ []) (0, at)) →
        Carries s (at + 1) [] [] ((trace start slots, (m, at + 1)) ∷ waiting_starts is_open width (at + 1) last) best o →
        Carries s at [] [] ((trace start slots, (p, at)) ∷ waiting_starts is_open width at last) best o
    reads_alone is_open p q m start slots leads move dead x =
        let t : Thread = record { place = m; at = at + 1; start = start; slots = slots } in
        let later = waiting_starts is_open width (at + 1) last in
        let here = waiting_starts is_open width at last in
        leads.carries (trace start slots) [] here best o
        (plain_on None s at [] [] best o tt q start slots (λ i. i) ((m, at + 1) ∷ []) here move.0 move.1
        (waited None s at [] (q ∷ []) best o t here (omega arith)
        (quiet_start None is_open (t ∷ []) (q ∷ []) dead
        (turned None s at (t ∷ []) (q ∷ []) best o later (waiting_past is_open width at last) x))))

-- the place behind a slot is one of the program
pub slot_inside : (places : List Place) (p k q : ℕ) → IsClosed places → p < length places → place_at places p ≡ slot k q → q < length places
slot_inside places p k q closed l is =
    let all = closed p (choice []) l in
    let next = subst (λ r. All (λ n. n < length places) (targets r)) is all in
    next 0 0 (omega arith)

-- the way on from a choice whose second way is a dead end
pub opens : (s : Sight) (at p a b : ℕ) → place_at s.places p ≡ choice (a ∷ b ∷ []) → place_at s.places b ≡ choice [] → IsOnWay s at p a
opens s at p a b is dead =
    inr (
      b,
      inl is,
      stops_shut s at b (
        ap (λ r. map (pair_at at) (ways_out (λ l. holds s.text l at) (ahead s.text s.hi at) r)) dead,
        ap (is_match_place (only s.anchoring)) dead ∙ choice_on (only s.anchoring) [],
      ),
    )

pub chosen_in : (s : Sight) (at n p a b q : ℕ) → a < n → b < n → IsChosen s at p a b q → q < n
chosen_in s at n p a b q i j way = ⊎_elim (λ w. subst (λ z. z < n) (sym w.0) i) (λ w. subst (λ z. z < n) (sym w.0) j) way

-- a list of one thread
pub only_thread : (ts : List Thread) (t : Thread) → length ts ≡ 1 → slice_get ts 0 ≡ Some t → ts ≡ t ∷ []
only_thread [] t one e = absurd (none-some t e)
only_thread (u ∷ []) t one e = ap (λ x. x ∷ []) (same_Some u t e)
only_thread (u ∷ v ∷ ts) t one e = absurd (omega (arith, one))

-- the walk ends of a lone thread
pub ends_only : (s : Sight) (at : ℕ) (items : List Thread) (t : Thread) (k : ℕ) → items ≡ t ∷ [] → t.at ≡ at → EndsBy s at t.place k → EndsAlone s at items k
ends_only s at items t k one here e = record {
  thread = t;
  only = one;
  here = here;
  place = e.0;
  leads = e.1;
  move = e.2;
}

pub one_of : (ts : List Thread) → length ts ≡ 1 → (t : Thread) × (ts ≡ t ∷ [])
one_of [] e = absurd (omega (arith, e))
one_of (t ∷ []) e = (t, refl)
one_of (t ∷ u ∷ ts) e = absurd (omega (arith, e))

pub not_false : (b : Bool) → not b ≡ false → b ≡ true
not_false true e = refl
not_false false e = absurd (true≢false e)

pub none_yet : (best : Option Ending) → is_some best ≡ false → best ≡ None
none_yet None e = refl
none_yet (Some r) e = absurd (true≢false e)

pub none_is : (best : Option Ending) → is_none best ≡ true → best ≡ None
none_is None e = refl
none_is (Some r) e = absurd (true≢false (sym e))

pub counted_more : (insertions more : ℕ) (best : Option Ending) → insertions ≤ more → IsCounted insertions best → IsCounted more best
counted_more insertions more None h c = tt
counted_more insertions more (Some r) h c = omega (arith, h, c)

module _ (s : Sight) (n hi width at insertions insertions2 : ℕ) (curr next : ThreadList) (t : Thread) (r : BareThread) (one : curr.items ≡ t ∷ [])
    (moved : next ≡ record curr { items = thread_of r t.slots ∷ [] }) (later : at ≤ r.at) (count : insertions2 ≡ insertions + (r.at - at)) where
  -- the only thread has gone on
  pub lined_moved : IsLined s n hi width at insertions curr → r.start ≡ t.start → r.place < n → r.at ≤ hi → IsLined s n hi width r.at insertions2 next
  lined_moved lined start place within =
      let b = subst (AllFrom (at - insertions)) one lined.begun in
      rw moved (one_in_line s n hi width insertions2 (record curr { items = thread_of r t.slots ∷ [] }) lined.width_is lined.room r t.slots refl place within
      (omega (arith, b.0, start, count, later)))

  pub few_moved : (from : ℕ) → insertions ≤ n * (at - from) → from ≤ at → r.place < n → insertions2 ≤ n * (r.at - from)
  few_moved from few reached place =
      let e : n * (r.at - from) ≡ n * (at - from) + n * (r.at - at) =
      ap (λ z. n * z) (omega (arith, later, reached)) ∙ mul-add n (at - from) (r.at - at) in
      let m : 1 * (r.at - at) ≤ n * (r.at - at) = mul-le-mul_right (r.at - at) (omega (arith, place)) in
      let one_times : 1 * (r.at - at) ≡ r.at - at = omega arith in
      omega (arith, e, m, one_times, count, few)

module _ (s : Sight) (n hi width last at insertions : ℕ) (curr : ThreadList) (lined : IsLined s n hi width at insertions curr) where
  -- The walk of the only thread ends.
  pub ends_alone : (pattern : ℕ) (best : Option Ending) (found : List (Option ℕ)) (o : Option Trace) (slots : List (Option ℕ)) (t : Thread) (next : List Thread) →
      EndsAlone s at curr.items pattern → curr.items ≡ t ∷ [] → t.slots ≡ slots → next ≡ [] →
      Pending s width last (at + 1) next (Some (record { pattern = pattern; start = t.start; end = at })) slots o →
      Pending s width last at curr.items best found o
  ends_alone pattern best found o slots t next e one same none x =
      let is : t ≡ e.thread = one_is e.thread t curr.items one e.only in
      let here = waiting_starts (is_none best) width at last in
      subst (λ ts. Pending s width last at ts best found o) (sym e.only)
      (subst (λ y. Carries s at [] [] ((trace e.thread.start e.thread.slots, (e.thread.place, y)) ∷ here) (best_of best found) o) (sym e.here)
      (e.leads.carries (trace e.thread.start e.thread.slots) [] here (best_of best found) o
      (matched None s at [] [] (best_of best found) o tt e.place pattern e.thread.start e.thread.slots [] here (λ i. i) e.move.0 e.move.1
      (subst (λ (u : Thread). Carries s at [] [] [] (Some (done pattern u.start at u.slots)) o) is
      (subst (λ l. Carries s at [] [] [] (Some (done pattern t.start at l)) o) (sym same)
      (turned None s at [] [] (Some (done pattern t.start at slots)) o [] tt
      (subst (λ ts. Pending s width last (at + 1) ts (Some (record { pattern = pattern; start = t.start; end = at })) slots o) none x)))))))
    where
      one_is : (u t : Thread) (ts : List Thread) → ts ≡ t ∷ [] → ts ≡ u ∷ [] → t ≡ u
      one_is u t ts a b = let both : t ∷ [] ≡ u ∷ [] = sym a ∙ b in cc

  -- A thread sets out that reads one byte, where none is under way.
  pub sets_out_alone : (root q m : ℕ) (found : List (Option ℕ)) (o : Option Trace) (slots : List (Option ℕ)) (next : List Thread) →
      length curr.items ≡ 0 → at ≤ last → at ≤ s.hi → StandsFor s root → ReadsOne s n at root (q, m) → slots ≡ replicate width None →
      next ≡ record { place = m; at = at + 1; start = at; slots = slots } ∷ [] →
      Pending s width last (at + 1) next None found o → Pending s width last at curr.items None found o
  sets_out_alone root q m found o slots next none low within stands reads empty is x =
      let h : Trace = trace at (replicate width None) in
      let later = waiting_starts true width (at + 1) last in
      let t : Thread = record { place = m; at = at + 1; start = at; slots = replicate width None } in
      subst (λ ts. Pending s width last at ts None found o) (sym (no_threads curr.items none))
      (subst (λ ts. Carries s at [] [] ts None o) (sym (waiting_next true width at last refl low))
      (carries_root s root stands h at later None o within
      (reads.leads.carries h [] later None o
      (plain_on None s at [] [] None o tt q at (replicate width None) (λ i. i) ((m, at + 1) ∷ []) later reads.move.0 reads.move.1
      (waited None s at [] (q ∷ []) None o t later (omega arith)
      (turned None s at (t ∷ []) (q ∷ []) None o later (waiting_past true width at last)
      (subst (λ l. Pending s width last (at + 1) (record { place = m; at = at + 1; start = at; slots = l } ∷ []) None found o) empty
      (subst (λ ts. Pending s width last (at + 1) ts None found o) is x))))))))

  -- no thread is left
  pub lined_none : (x insertions2 width2 : ℕ) (next : ThreadList) → next ≡ record curr { items = []; width = width2 } → width2 ≡ width →
      IsLined s n hi width x insertions2 next
  lined_none x insertions2 width2 next e wide =
      rw e (no_line s n hi width insertions2 (record curr { items = []; width = width2 }) wide lined.room x refl)

  -- one thread waits for the next position
  pub lined_one : (r : BareThread) (slots : List (Option ℕ)) (next : ThreadList) → next ≡ record curr { items = thread_of r slots ∷ [] } →
      r.at ≡ at + 1 → r.start ≡ at → r.place < n → at + 1 ≤ hi → IsLined s n hi width (at + 1) (insertions + 1) next
  lined_one r slots next e here start place within =
      let high : r.at ≤ hi = omega (arith, here, within) in
      rw e (subst (λ x. IsLined s n hi width x (insertions + 1) (record curr { items = thread_of r slots ∷ [] })) here
      (one_in_line s n hi width (insertions + 1) (record curr { items = thread_of r slots ∷ [] }) lined.width_is lined.room r slots refl place high
      (omega (arith, here, start))))
