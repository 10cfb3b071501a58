-- What a thread's entering of a place does to the greatest match on offer.
use Rattle.std.proofs.Common.{◌≡◌, ◌≢◌, ℕ, ◌+◌, ◌<◌, ◌≤◌, List, [], ◌∷◌, ◌++◌, map, ⊎_elim, sym, subst, ap, ◌∙◌, refl, arith, false, IsTrue, Option, Some, None, option_map, ◌⊎◌}
use Rattle.std.proofs.lemmas.Bool.{le-ltb}
use Rattle.std.proofs.lemmas.List.{map-append, append-nil}
use Rattle.rc_text.specs.Found.{Found}
use Rattle.rc_walks.specs.Walks.{Pair}
use Rattle.rc_program.specs.Program.{accept, choice, place_at, ways_out, pair_at, is_match_place}
use Rattle.rc_program.specs.Text.{holds, ahead}
use Rattle.rc_program.specs.Answer.{only}
use Rattle.rc_pikevm.specs.Sights.{Sight, ends, next_of}
use Rattle.rc_pikevm.specs.Entrances.{AreWays, IsOnWay, IsShut, IsWayIn, stays_in, goes_in}
use Rattle.rc_pikevm.specs.Sparse.{Has}
use Rattle.rc_pikevm.specs.Threads.{Thread}
use Rattle.rc_pikevm.specs.Moves.{IsMove}
use Rattle.rc_pikevm.specs.Passing.{pairs, resting_of, frames_of}
use Rattle.rc_pikevm.specs.Spread.{Runner, running, LeadsToMatch, SomeSpells, span_of, Offers, IsTop, Seeks, BeginFrom, IsGreater, IsOrdered, AllBefore, IsRising, runners_of}
use Rattle.rc_pikevm.specs.declared.moves.Move.{Move}
use Rattle.rc_pikevm.specs.declared.moves.Move.TheVariants.{Fork, Save, Matches, Stays, Reads, DeadEnd}
use Rattle.rc_pikevm.specs.declared.growth.Frame.{Frame}
use Rattle.rc_pikevm.specs.declared.growth.Frame.TheVariants.{Explore, Restore}
use Rattle.rc_pikevm.specs.declared.pass.Ending.{Ending}
use Rattle.rc_pikevm.proofs.EntranceLemmas.{choice_on, forks, leads_out, ways_by}
use Rattle.rc_pikevm.proofs.EnteredLemmas.{has_pairs, pairs_has, pairs_at, pairs_push}
use Rattle.rc_pikevm.proofs.GrownLemmas.{from_push}
use Rattle.rc_pikevm.proofs.MoveLemmas.{slot_on}
use Rattle.rc_pikevm.proofs.SpreadLemmas.{Narrows, top_back, enters_narrow, matches_narrow, skips_narrow, waits_narrow, way_narrow, turns_narrow, by_ways, AllLater}

pub begin_more : (start at : ℕ) (frames : List Frame) (below : List Runner) → BeginFrom start below → BeginFrom start (runners_of start at frames ++ below)
begin_more start at [] below h = h
begin_more start at (Explore p ∷ frames) below h = (omega arith, begin_more start at frames below h)
begin_more start at (Restore k old ∷ frames) below h = begin_more start at frames below h

rising_push : (ts : List Thread) (t : Thread) → IsRising ts → AllBefore t.start ts → IsRising (ts ++ t ∷ [])
rising_push [] t rising before = (tt, tt)
rising_push (u ∷ ts) t rising before = (from_push u.start ts t rising.0 before.0, rising_push ts t rising.1 before.1)

before_push : (x : ℕ) (ts : List Thread) (t : Thread) → AllBefore x ts → t.start ≤ x → AllBefore x (ts ++ t ∷ [])
before_push x [] t all h = (h, tt)
before_push x (u ∷ ts) t all h = (all.0, before_push x ts t all.1 h)

pub ordered_push : (ts : List Thread) (t : Thread) → IsOrdered t.start ts → IsOrdered t.start (ts ++ t ∷ [])
ordered_push ts t h = record {
  rising = rising_push ts t h.rising h.before;
  before = before_push t.start ts t h.before (omega arith);
}

pub before_wider : (x y : ℕ) (ts : List Thread) → x ≤ y → AllBefore x ts → AllBefore y ts
before_wider x y [] h all = tt
before_wider x y (t ∷ ts) h all = (omega (arith, h, all.0), before_wider x y ts h all.1)

pub ordered_wider : (x y : ℕ) (ts : List Thread) → x ≤ y → IsOrdered x ts → IsOrdered y ts
ordered_wider x y ts h o = record { rising = o.rising; before = before_wider x y ts h o.before }

-- a move puts a thread of the same start behind the others
pub ordered_by : (start : ℕ) (ts : List Thread) (move : Move) → IsOrdered start ts → IsOrdered start (ts ++ resting_of start [] move)
ordered_by start ts (Fork a b) h = rw append-nil h
ordered_by start ts (Save k m) h = rw append-nil h
ordered_by start ts (Matches q) h = rw append-nil h
ordered_by start ts (Stays m) h = rw append-nil h
ordered_by start ts DeadEnd h = rw append-nil h
ordered_by start ts (Reads m to) h = ordered_push ts (record { place = m; at = to; start = start; slots = [] }) h

module _ (s : Sight) where
  -- a thread goes on at a later position
  pub later_waits : (at : ℕ) (rest : List Thread) (items : List ℕ) (best : Option Ending) (o : Option Found) (t : Thread) (ts : List Runner) → at < t.at →
      Seeks s at (rest ++ t ∷ []) items ts best o → Seeks s at rest items (running t ∷ ts) best o
  later_waits at rest items best o t ts later x =
      top_back (Offers s at rest items (running t ∷ ts) best) (Offers s at (rest ++ t ∷ []) items ts best) o
      (subst (λ rs. Narrows (Offers s at rest items (running t ∷ ts) best)
      (λ m. SomeSpells s [] rs m ⊎ (SomeSpells s (pairs at items) ts m ⊎ (option_map span_of best ≡ Some m)))) (sym (map-append running rest (t ∷ [])))
      (waits_narrow s (λ m. option_map span_of best ≡ Some m) at (map running rest) (running t) (pairs at items) ts
      (λ k i. let e : k.1 ≡ at = pairs_at at items k i in omega arith) later)) x

  -- all threads that wait go on at the next position
  pub turned_over : (at : ℕ) (rest : List Thread) (items : List ℕ) (best : Option Ending) (o : Option Found) (ts : List Runner) → AllLater s at ts →
      Seeks s (at + 1) [] [] (map running rest ++ ts) best o → Seeks s at rest items ts best o
  turned_over at rest items best o ts all x =
      top_back (Offers s at rest items ts best) (Offers s (at + 1) [] [] (map running rest ++ ts) best) o
      (turns_narrow s (λ m. option_map span_of best ≡ Some m) at (map running rest) (pairs at items) ts
      (λ k i. let e : k.1 ≡ at = pairs_at at items k i in omega arith) all) x

  module _ (at : ℕ) (rest : List Thread) (items : List ℕ) (best : Option Ending) (o : Option Found) where
    -- the place was entered already
    pub passed_over : (p start : ℕ) (ts : List Runner) → Has items p → Seeks s at rest items ts best o → Seeks s at rest items ((start, (p, at)) ∷ ts) best o
    passed_over p start ts has x =
        top_back (Offers s at rest items ((start, (p, at)) ∷ ts) best) (Offers s at rest items ts best) o
        (skips_narrow s (SomeSpells s [] (map running rest)) (λ m. option_map span_of best ≡ Some m) (start, (p, at)) (pairs at items) ts
        (has_pairs at p items has)) x

    module _ (p start : ℕ) (fresh : ¬ Has items p) where
      -- a walk ends
      pub ended_here : (new result : Ending) (ts : List Runner) → IsTrue (ends s (p, at)) → place_at s.places p ≡ accept new.pattern →
          new.start ≡ start → new.end ≡ at → IsGreater best new result → BeginFrom start ts →
          Seeks s at rest (items ++ p ∷ []) ts (Some result) o → Seeks s at rest items ((start, (p, at)) ∷ ts) best o
      ended_here new result ts end is begun stop g low x =
          top_back (Offers s at rest items ((start, (p, at)) ∷ ts) best)
          (λ m. SomeSpells s [] (map running rest) m ⊎ (SomeSpells s ((p, at) ∷ pairs at items) ts m ⊎ (option_map span_of (Some result) ≡ Some m))) o
          (matches_narrow s start (p, at) (pairs at items) (SomeSpells s [] (map running rest)) best new result ts
          (λ i. fresh (pairs_has at p items i)) end is begun stop g low)
          (subst (λ v. IsTop (λ m. SomeSpells s [] (map running rest) m ⊎ (SomeSpells s v ts m ⊎ (option_map span_of (Some result) ≡ Some m))) o)
          (pairs_push at p items) x)

      -- the place is entered, and the runner goes on by its ways
      pub entered_by : (ts : List Runner) → ends s (p, at) ≡ false → BeginFrom start ts →
          Seeks s at rest (items ++ p ∷ []) (by_ways s start (next_of s (p, at)) ++ ts) best o → Seeks s at rest items ((start, (p, at)) ∷ ts) best o
      entered_by ts on low x =
          top_back (Offers s at rest items ((start, (p, at)) ∷ ts) best)
          (λ m. SomeSpells s [] (map running rest) m
          ⊎ (SomeSpells s ((p, at) ∷ pairs at items) (by_ways s start (next_of s (p, at)) ++ ts) m ⊎ (option_map span_of best ≡ Some m))) o
          (enters_narrow s start (p, at) (pairs at items) (SomeSpells s [] (map running rest)) (λ m. option_map span_of best ≡ Some m) ts
          (λ i. fresh (pairs_has at p items i)) on low)
          (subst (λ v. IsTop (λ m. SomeSpells s [] (map running rest) m
          ⊎ (SomeSpells s v (by_ways s start (next_of s (p, at)) ++ ts) m ⊎ (option_map span_of best ≡ Some m))) o)
          (pairs_push at p items) x)

      ways_on : (ms : List Pair) (ts : List Runner) → next_of s (p, at) ≡ ms → ends s (p, at) ≡ false → BeginFrom start ts →
          Seeks s at rest (items ++ p ∷ []) (by_ways s start ms ++ ts) best o → Seeks s at rest items ((start, (p, at)) ∷ ts) best o
      ways_on ms ts out on low x =
          entered_by ts on low (subst (λ m. Seeks s at rest (items ++ p ∷ []) (by_ways s start m ++ ts) best o) (sym out) x)

      -- the place is entered, and its move is made
      pub moved_on : (move : Move) (frames : List Frame) (below : List Runner) → IsMove s (p, at) move → ((q : ℕ) → move ≢ Matches q) →
          BeginFrom start below →
          Seeks s at (rest ++ resting_of start [] move) (items ++ p ∷ []) (runners_of start at (frames_of [] move ++ frames) ++ below) best o →
          Seeks s at rest items ((start, (p, at)) ∷ (runners_of start at frames ++ below)) best o
      moved_on (Fork a b) frames below m other low x =
          ways_on ((a, at) ∷ (b, at) ∷ []) (runners_of start at frames ++ below) m.0 m.1.on (begin_more start at frames below low)
          (subst (λ r. Seeks s at r (items ++ p ∷ []) ((start, (a, at)) ∷ (start, (b, at)) ∷ (runners_of start at frames ++ below)) best o) (append-nil rest) x)
      moved_on (Stays n) frames below m other low x =
          ways_on ((n, at) ∷ []) (runners_of start at frames ++ below) m.0 m.1.on (begin_more start at frames below low)
          (subst (λ r. Seeks s at r (items ++ p ∷ []) ((start, (n, at)) ∷ (runners_of start at frames ++ below)) best o) (append-nil rest) x)
      moved_on DeadEnd frames below m other low x =
          ways_on [] (runners_of start at frames ++ below) m.0 m.1 (begin_more start at frames below low)
          (subst (λ r. Seeks s at r (items ++ p ∷ []) (runners_of start at frames ++ below) best o) (append-nil rest) x)
      moved_on (Matches q) frames below m other low x = absurd (other q refl)
      moved_on (Reads n to) frames below m other low x =
          ways_on ((n, to) ∷ []) (runners_of start at frames ++ below) m.0 m.1.on (begin_more start at frames below low)
          (later_waits at rest (items ++ p ∷ []) best o (record { place = n; at = to; start = start; slots = [] }) (runners_of start at frames ++ below) m.2 x)
      moved_on (Save k n) frames below m other low x =
          let e : frames_of [] (Save k n) ≡ Explore n ∷ [] = rw (le-ltb k 0 (omega arith)) refl in
          ways_on ((n, at) ∷ []) (runners_of start at frames ++ below)
          (ap (λ q. map (pair_at at) (ways_out (λ l. holds s.text l at) (ahead s.text s.hi at) q)) m.1)
          (ap (is_match_place (only s.anchoring)) m.1 ∙ slot_on (only s.anchoring) m.0 n) (begin_more start at frames below low)
          (subst (λ fs. Seeks s at rest (items ++ p ∷ []) (runners_of start at (fs ++ frames) ++ below) best o) e
          (subst (λ r. Seeks s at r (items ++ p ∷ []) (runners_of start at (frames_of [] (Save k n) ++ frames) ++ below) best o) (append-nil rest) x))

    module _ (start : ℕ) (ts : List Runner) where
      -- the way on, of which the other way is shut
      seeks_by : (p a b : ℕ) → ¬ Has items p → AreWays s p a b → IsShut s (b, at) → Seeks s at rest items ((start, (a, at)) ∷ ts) best o →
          Seeks s at rest items ((start, (p, at)) ∷ ts) best o
      seeks_by p a b fresh are shut x =
          let c = forks s at p a b are in
          top_back (Offers s at rest items ((start, (p, at)) ∷ ts) best) (Offers s at rest items ((start, (a, at)) ∷ ts) best) o
          (way_narrow s start (p, at) (pairs at items) (SomeSpells s [] (map running rest)) (λ m. option_map span_of best ≡ Some m) (a, at) ts
          (λ i. fresh (pairs_has at p items i)) (ap (is_match_place (only s.anchoring)) c.1 ∙ choice_on (only s.anchoring) c.0)
          (leads_out s at p a b are) by_it) x
        where
          avoided : List Pair
          avoided = (p, at) ∷ pairs at items

          none : (m : Found) → LeadsToMatch s avoided (start, (b, at)) m → ⊥
          none m h = shut None tt avoided h.walk h.is_walk

          by_it : (m : Found) → SomeSpells s avoided (by_ways s start (next_of s (p, at))) m → LeadsToMatch s avoided (start, (a, at)) m
          by_it m h =
              ⊎_elim
              (λ e. ⊎_elim (λ y. y) (λ y. ⊎_elim (λ z. absurd (none m z)) (λ z. absurd z) y)
              (subst (λ ms. SomeSpells s avoided (by_ways s start ms) m) (ways_by s at p (choice (a ∷ b ∷ [])) e) h))
              (λ e. ⊎_elim (λ z. absurd (none m z)) (λ y. ⊎_elim (λ z. z) (λ z. absurd z) y)
              (subst (λ ms. SomeSpells s avoided (by_ways s start ms) m) (ways_by s at p (choice (b ∷ a ∷ [])) e) h))
              are

      seeks_step : (p a : ℕ) → ¬ Has items p → IsOnWay s at p a → Seeks s at rest items ((start, (a, at)) ∷ ts) best o →
          Seeks s at rest items ((start, (p, at)) ∷ ts) best o
      seeks_step p a fresh way x =
          ⊎_elim (λ e. subst (λ m. Seeks s at rest items ((start, (m, at)) ∷ ts) best o) e x) (λ r. seeks_by p a r.0 fresh r.1 r.2 x) way

      -- a thread enters in place of another
      pub seeks_way_in : {p a : ℕ} → IsWayIn s at items p a → Seeks s at rest items ((start, (a, at)) ∷ ts) best o →
          Seeks s at rest items ((start, (p, at)) ∷ ts) best o
      seeks_way_in stays_in x = x
      seeks_way_in {p} {a} (goes_in {q = q} way fresh step) x = seeks_way_in way (seeks_step q a fresh step x)
