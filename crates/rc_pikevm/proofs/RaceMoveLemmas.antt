-- What a thread's entering of a place does to a pass for the longest walk.
use Rattle.std.proofs.Common.{◌≡◌, ◌≢◌, ℕ, ◌<◌, List, [], ◌∷◌, ◌++◌, map, reverse, ⊎_elim, sym, subst, ap, ◌∙◌, refl, arith, false, true≢false, IsTrue, Option, Some, None, slice_set}
use Rattle.std.proofs.lemmas.List.{map-append, append-nil}
use Rattle.rc_walks.specs.Walks.{Pair}
use Rattle.rc_walks.specs.Threads.{threads}
use Rattle.rc_program.specs.Columns.{column_at}
use Rattle.rc_program.specs.Program.{Place, accept, place_at, ways_out, pair_at, is_match_place}
use Rattle.rc_program.specs.Text.{holds, ahead}
use Rattle.rc_program.specs.Answer.{only}
use Rattle.rc_program.proofs.LongestLemmas.{none_to}
use Rattle.rc_program.proofs.WayLemmas.{same_pair}
use Rattle.rc_pikevm.specs.Sights.{Sight, ends, next_of}
use Rattle.rc_pikevm.specs.Sparse.{Has}
use Rattle.rc_pikevm.specs.Threads.{Thread}
use Rattle.rc_pikevm.specs.Trace.{Trace, note, note_at, trace, done}
use Rattle.rc_pikevm.specs.Moves.{IsMove, IsPlain}
use Rattle.rc_pikevm.specs.Entered.{Goes, IsSkipped, IsEntered, IsVisited}
use Rattle.rc_pikevm.specs.Passing.{pending, pairs, waits, resting_of, frames_of, slots_after}
use Rattle.rc_pikevm.specs.Races.{IsRacing, EndedBefore, upto, began, leading, kept, Races, IsSought, IsCutOff, EndedBy, IsRecorded, EndsThere}
use Rattle.rc_pikevm.specs.declared.moves.Move.{Move}
use Rattle.rc_pikevm.specs.declared.moves.Move.TheVariants.{Fork, Save, Matches, Stays, Reads, DeadEnd}
use Rattle.rc_pikevm.specs.declared.growth.Frame.{Frame}
use Rattle.rc_pikevm.specs.declared.growth.Growth.{Growth}
use Rattle.rc_pikevm.specs.declared.pass.Ending.{Ending}
use Rattle.rc_pikevm.proofs.SightLemmas.{last_pair}
use Rattle.rc_pikevm.proofs.MoveLemmas.{Ends, onward, slot_on, waits_saved}
use Rattle.rc_pikevm.proofs.EnteredLemmas.{has_pairs, pairs_has, pairs_push}
use Rattle.rc_pikevm.specs.Entrances.{IsOnWay, IsShut, IsWayIn, stays_in, goes_in}
use Rattle.rc_pikevm.proofs.EntranceLemmas.{no_end, forks, only_other}
use Rattle.rc_pikevm.proofs.NotedLemmas.{start_kept}
use Rattle.rc_pikevm.proofs.VisitLemmas.{same_threads, quiet, entered_end, end_there}
use Rattle.rc_pikevm.proofs.LeftOutLemmas.{race_leaves}
use Rattle.rc_pikevm.proofs.RaceListLemmas.{upto_in, upto_out, upto_upto, upto_threads_in, upto_all, rising_before}
use Rattle.rc_pikevm.proofs.RaceLemmas.{race_skips, race_enters, race_waits, race_matches, race_ignores, race_way_in}

-- where a walk began stays noted
pub note_keeps : (places : List Place) (h : Trace) (n : Pair) → began (note places h n) ≡ began h
note_keeps places h n = start_kept (column_at places n.0) (place_at places n.0) h n.1

pub kept_in : (best : Option Ending) (t : Trace × Pair) (ts : List (Trace × Pair)) → IsSought best (began t.0) → kept best (t ∷ ts) ≡ t ∷ kept best ts
kept_in None t ts sought = refl
kept_in (Some r) t ts sought = upto_in Trace began r.start t ts sought

pub kept_out : (best : Option Ending) (t : Trace × Pair) (ts : List (Trace × Pair)) → IsCutOff best (began t.0) → kept best (t ∷ ts) ≡ kept best ts
kept_out None t ts cut = absurd cut
kept_out (Some r) t ts cut = upto_out Trace began r.start t ts cut

kept_threads : (best : Option Ending) (h : Trace) (ms : List Pair) (ts : List (Trace × Pair)) → IsSought best (began h) →
    kept best (threads h ms ++ ts) ≡ threads h ms ++ kept best ts
kept_threads None h ms ts sought = refl
kept_threads (Some r) h ms ts sought = upto_threads_in Trace began r.start h ms ts sought

-- of a lesser start
kept_less : (best : Option Ending) (r : Ending) (ts : List (Trace × Pair)) → IsSought best r.start → upto began r.start (kept best ts) ≡ kept (Some r) ts
kept_less None r ts sought = refl
kept_less (Some b) r ts sought = upto_upto Trace began b.start r.start ts sought

module _ (s : Sight) (all : List (Trace × Pair)) (at : ℕ) where
  abbrev Race : List (Trace × Pair) → List Pair → List (Trace × Pair) → Option (Trace × ℕ) → Type 0
  Race rs v ts best = IsRacing (next_of s) (λ n. IsTrue (ends s n)) Trace (note s.places) began all at rs v ts best

  module _ (rest : List Thread) (items : List ℕ) (best : Option Ending) (found : List (Option ℕ)) where
    -- the place was entered already
    pub raced_skips : (p : ℕ) (h : Trace) (ts : List (Trace × Pair)) → Has items p → IsSought best (began h) →
        Races s all at rest items ((h, (p, at)) ∷ ts) best found → Races s all at rest items ts best found
    raced_skips p h ts has sought x =
        race_skips (next_of s) (Ends s) Trace (note s.places) began (note_keeps s.places) same_pair (last_pair s) (onward s) all at (map pending rest) (pairs at items) (leading best found)
        (h, (p, at)) (kept best ts) (has_pairs at p items has)
        (subst (λ ts. Race (map pending rest) (pairs at items) ts (leading best found)) (kept_in best (h, (p, at)) ts sought) x)

    -- a thread of a later start is left out
    pub raced_drops : (t : Trace × Pair) (ts : List (Trace × Pair)) → IsCutOff best (began t.0) →
        Races s all at rest items (t ∷ ts) best found → Races s all at rest items ts best found
    raced_drops t ts cut x = subst (λ ts. Race (map pending rest) (pairs at items) ts (leading best found)) (kept_out best t ts cut) x

    -- a thread goes on at a later position
    pub raced_waits : (t : Thread) (ts : List (Trace × Pair)) → at < t.at → IsSought best t.start →
        Races s all at rest items (pending t ∷ ts) best found → Races s all at (rest ++ t ∷ []) items ts best found
    raced_waits t ts later sought x =
        subst (λ rs. Race rs (pairs at items) (kept best ts) (leading best found)) (sym (map-append pending rest (t ∷ [])))
        (race_waits (next_of s) (Ends s) Trace (note s.places) began (note_keeps s.places) same_pair (last_pair s) (onward s) all at (map pending rest) (pairs at items) (leading best found)
        (pending t) (kept best ts) later
        (subst (λ ts. Race (map pending rest) (pairs at items) ts (leading best found)) (kept_in best (pending t) ts sought) x))

    -- a thread enters at a way on from the place
    pub raced_on : (p a : ℕ) (h : Trace) (ts : List (Trace × Pair)) → ¬ Has items p → IsOnWay s at p a → IsSought best (began h) →
        Races s all at rest items ((h, (p, at)) ∷ ts) best found → Races s all at rest items ((h, (a, at)) ∷ ts) best found
    raced_on p a h ts fresh way sought x =
        ⊎_elim (λ e. subst (λ m. Races s all at rest items ((h, (m, at)) ∷ ts) best found) (sym e) x)
        (λ q. let b : ℕ = q.0 in
        let c = forks s at p a b q.1 in
        subst (λ ts. Race (map pending rest) (pairs at items) ts (leading best found)) (sym (kept_in best (h, (a, at)) ts sought))
        (race_way_in (next_of s) (Ends s) Trace (note s.places) began (note_keeps s.places) same_pair (last_pair s) (onward s) all at (map pending rest) (pairs at items) (leading best found)
        h (p, at) (a, at) (kept best ts)
        (λ i. fresh (pairs_has at p items i)) (ap (λ z. note_at (column_at s.places p) z h at) c.1)
        (λ e. only_other s at None tt (EndsThere (Ends s) e) p a b q.1 (none_to (next_of s) (Ends s) ((p, at) ∷ []) ((b, at) ∷ []) e (q.2 None tt ((p, at) ∷ []))))
        (no_end s at p c.0 c.1)
        (subst (λ ts. Race (map pending rest) (pairs at items) ts (leading best found)) (kept_in best (h, (p, at)) ts sought) x))) way

    -- a thread enters in place of another
    pub raced_way_in : (h : Trace) (ts : List (Trace × Pair)) {p a : ℕ} → IsWayIn s at items p a → IsSought best (began h) →
        Races s all at rest items ((h, (p, at)) ∷ ts) best found → Races s all at rest items ((h, (a, at)) ∷ ts) best found
    raced_way_in h ts stays_in sought x = x
    raced_way_in h ts {p} {a} (goes_in {q = q} way fresh step) sought x = raced_on q a h ts fresh step sought (raced_way_in h ts way sought x)

    -- the place is entered, and the threads go on by its ways
    entered_on : (p : ℕ) (h : Trace) (ts : List (Trace × Pair)) → ¬ Has items p → ends s (p, at) ≡ false → IsSought best (began h) →
        Races s all at rest items ((h, (p, at)) ∷ ts) best found →
        Races s all at rest (items ++ p ∷ []) (threads (note s.places h (p, at)) (next_of s (p, at)) ++ ts) best found
    entered_on p h ts fresh on sought x =
        subst (λ v. Race (map pending rest) v (kept best (threads (note s.places h (p, at)) (next_of s (p, at)) ++ ts)) (leading best found))
        (sym (pairs_push at p items))
        (subst (λ ts. Race (map pending rest) ((p, at) ∷ pairs at items) ts (leading best found))
        (sym (kept_threads best (note s.places h (p, at)) (next_of s (p, at)) ts
        (subst (IsSought best) (sym (note_keeps s.places h (p, at))) sought)))
        (race_enters (next_of s) (Ends s) Trace (note s.places) began (note_keeps s.places) same_pair (last_pair s) (onward s) all at (map pending rest) (pairs at items) (leading best found)
        (h, (p, at)) (kept best ts) (λ i. fresh (pairs_has at p items i)) (omega arith) (λ y e sought_to there. true≢false (sym there.0 ∙ on))
        (subst (λ ts. Race (map pending rest) (pairs at items) ts (leading best found)) (kept_in best (h, (p, at)) ts sought) x)))

    -- a walk ends where another one did
    pub raced_ignores : (p : ℕ) (h : Trace) (ts : List (Trace × Pair)) → ¬ Has items p → Ends s (p, at) → EndedBy best at → IsSought best (began h) →
        Races s all at rest items ((h, (p, at)) ∷ ts) best found → Races s all at rest (items ++ p ∷ []) ts best found
    raced_ignores p h ts fresh end by sought x =
        subst (λ v. Race (map pending rest) v (kept best ts) (leading best found)) (sym (pairs_push at p items))
        (by_best best by
        (subst (λ ts. Race (map pending rest) (pairs at items) ts (leading best found)) (kept_in best (h, (p, at)) ts sought) x))
      where
        by_best : (best2 : Option Ending) → EndedBy best2 at → Race (map pending rest) (pairs at items) ((h, (p, at)) ∷ kept best ts) (leading best2 found) →
            Race (map pending rest) ((p, at) ∷ pairs at items) (kept best ts) (leading best2 found)
        by_best None never y = absurd never
        by_best (Some r) by y =
            race_ignores (next_of s) (Ends s) Trace (note s.places) began (note_keeps s.places) same_pair (last_pair s) (onward s) all at (map pending rest) (pairs at items)
            (done r.pattern r.start r.end found, r.end) (h, (p, at)) (kept best ts) (λ i. fresh (pairs_has at p items i)) refl end by y

    -- a walk ends, the first at this position
    pub raced_matches : (p pattern start : ℕ) (slots : List (Option ℕ)) (ts : List (Trace × Pair)) → ¬ Has items p →
        place_at s.places p ≡ accept pattern → Ends s (p, at) → EndedBefore at (leading best found) → IsSought best start →
        Races s all at rest items ((trace start slots, (p, at)) ∷ ts) best found →
        Races s all at rest (items ++ p ∷ []) ts (Some (record { pattern = pattern; start = start; end = at })) slots
    raced_matches p pattern start slots ts fresh is end before sought x =
        let new : Ending = record { pattern = pattern; start = start; end = at } in
        let y : Race (map pending rest) (pairs at items) ((trace start slots, (p, at)) ∷ kept best ts) (leading best found) =
        subst (λ ts. Race (map pending rest) (pairs at items) ts (leading best found)) (kept_in best (trace start slots, (p, at)) ts sought) x in
        let noted : note s.places (trace start slots) (p, at) ≡ done pattern start at slots = ap (λ z. note_at (column_at s.places p) z (trace start slots) at) is in
        let z = race_matches (next_of s) (Ends s) Trace (note s.places) began (note_keeps s.places) same_pair (last_pair s) (onward s) all at (map pending rest) (pairs at items) (leading best found)
        (trace start slots, (p, at)) (kept best ts) (λ i. fresh (pairs_has at p items i)) refl end before y in
        subst (λ h. Race (map pending rest) (pairs at (items ++ p ∷ [])) (kept (Some new) ts) (Some (h, at))) noted
        (subst (λ v. Race (map pending rest) v (kept (Some new) ts) (Some (note s.places (trace start slots) (p, at), at))) (sym (pairs_push at p items))
        (subst (λ ts. Race (map pending rest) ((p, at) ∷ pairs at items) ts (Some (note s.places (trace start slots) (p, at), at))) (kept_less best new ts sought)
        (subst (λ rs. Race rs ((p, at) ∷ pairs at items) (upto began start (kept best ts)) (Some (note s.places (trace start slots) (p, at), at)))
        (upto_all Trace began start (map pending rest) (rising_before Trace began (map pending rest) (trace start slots, (p, at)) (kept best ts) y.rising)) z)))

    module _ (p start : ℕ) (slots : List (Option ℕ)) (fresh : ¬ Has items p) (sought : IsSought best start) where
      pub plain_on : (ms : List Pair) (ts : List (Trace × Pair)) → next_of s (p, at) ≡ ms → IsPlain s (p, at) →
          Races s all at rest items ((trace start slots, (p, at)) ∷ ts) best found →
          Races s all at rest (items ++ p ∷ []) (threads (trace start slots) ms ++ ts) best found
      plain_on ms ts out plain x =
          subst (λ h. Races s all at rest (items ++ p ∷ []) (threads h ms ++ ts) best found) (plain.silent (trace start slots))
          (subst (λ m. Races s all at rest (items ++ p ∷ []) (threads (note s.places (trace start slots) (p, at)) m ++ ts) best found) out
          (entered_on p (trace start slots) ts fresh plain.on sought x))

  module _ (rest : List Thread) (items : List ℕ) (best : Option Ending) (found : List (Option ℕ)) (p start : ℕ) (slots : List (Option ℕ))
      (fresh : ¬ Has items p) (sought : IsSought best start) where
    abbrev After : List Thread → List (Trace × Pair) → Type 0
    After rs ts = Races s all at rs (items ++ p ∷ []) ts best found

    -- the place is entered, and its move is made
    pub raced_moves : (move : Move) (frames : List Frame) (below : List (Trace × Pair)) → IsMove s (p, at) move → ((q : ℕ) → move ≢ Matches q) →
        Races s all at rest items ((trace start slots, (p, at)) ∷ (waits start at frames slots ++ below)) best found →
        Races s all at (rest ++ resting_of start slots move) (items ++ p ∷ [])
        (waits start at (frames_of slots move ++ frames) (slots_after at slots move) ++ below) best found
    raced_moves (Fork a b) frames below m other x =
        subst (λ r. After r ((trace start slots, (a, at)) ∷ (trace start slots, (b, at)) ∷ (waits start at frames slots ++ below))) (sym (append-nil rest))
        (plain_on rest items best found p start slots fresh sought ((a, at) ∷ (b, at) ∷ []) (waits start at frames slots ++ below) m.0 m.1 x)
    raced_moves (Stays n) frames below m other x =
        subst (λ r. After r ((trace start slots, (n, at)) ∷ (waits start at frames slots ++ below))) (sym (append-nil rest))
        (plain_on rest items best found p start slots fresh sought ((n, at) ∷ []) (waits start at frames slots ++ below) m.0 m.1 x)
    raced_moves DeadEnd frames below m other x =
        subst (λ r. After r (waits start at frames slots ++ below)) (sym (append-nil rest))
        (subst (λ ms. After rest (threads (note s.places (trace start slots) (p, at)) ms ++ (waits start at frames slots ++ below))) m.0
        (entered_on rest items best found p (trace start slots) (waits start at frames slots ++ below) fresh m.1 sought x))
    raced_moves (Matches q) frames below m other x = absurd (other q refl)
    raced_moves (Reads n to) frames below m other x =
        raced_waits rest (items ++ p ∷ []) best found (record { place = n; at = to; start = start; slots = slots }) (waits start at frames slots ++ below) m.2 sought
        (plain_on rest items best found p start slots fresh sought ((n, to) ∷ []) (waits start at frames slots ++ below) m.0 m.1 x)
    raced_moves (Save k n) frames below m other x =
        subst (λ r. After r (waits start at (frames_of slots (Save k n) ++ frames) (slice_set slots k (Some at)) ++ below)) (sym (append-nil rest))
        (subst (λ ws. After rest (ws ++ below)) (sym (waits_saved start at k n slots frames))
        (subst (λ j. After rest ((trace start (slice_set slots j (Some at)), (n, at)) ∷ (waits start at frames slots ++ below))) (sym m.2)
        (subst (λ q. After rest (threads (note_at (column_at s.places p) q (trace start slots) at) (map (pair_at at) (ways_out (λ l. holds s.text l at) (ahead s.text s.hi at) q))
        ++ (waits start at frames slots ++ below))) m.1
        (entered_on rest items best found p (trace start slots) (waits start at frames slots ++ below) fresh
        (ap (is_match_place (only s.anchoring)) m.1 ∙ slot_on (only s.anchoring) m.0 n) sought x))))

-- the place is entered, and no move is made
raced_leaves : (s : Sight) (all : List (Trace × Pair)) (at : ℕ) (rest : List Thread) (items : List ℕ) (best : Option Ending) (found : List (Option ℕ))
    (p : ℕ) (h : Trace) (ts : List (Trace × Pair)) → IsShut s (p, at) → IsSought best (began h) →
    Races s all at rest items ((h, (p, at)) ∷ ts) best found → Races s all at rest (items ++ p ∷ []) ts best found
raced_leaves s all at rest items best found p h ts dead sought x =
    subst (λ v. Race s all at (map pending rest) v (kept best ts) (leading best found)) (sym (pairs_push at p items))
    (race_leaves (next_of s) (Ends s) Trace (note s.places) began all at (map pending rest) (pairs at items) (leading best found)
    (h, (p, at)) (kept best ts) (omega arith) (dead None tt (pairs at items))
    (subst (λ ts. Race s all at (map pending rest) (pairs at items) ts (leading best found)) (kept_in best (h, (p, at)) ts sought) x))

-- the place is entered, and the move is made
raced_goes : (s : Sight) (all : List (Trace × Pair)) (at : ℕ) (rest : List Thread) (items : List ℕ) (best : Option Ending) (found : List (Option ℕ))
    (p start : ℕ) (slots : List (Option ℕ)) → ¬ Has items p → IsSought best start → (move : Move) (frames : List Frame) (below : List (Trace × Pair)) →
    Goes s (p, at) move → ((q : ℕ) → move ≢ Matches q) →
    Races s all at rest items ((trace start slots, (p, at)) ∷ (waits start at frames slots ++ below)) best found →
    Races s all at (rest ++ resting_of start slots move) (items ++ p ∷ [])
    (waits start at (frames_of slots move ++ frames) (slots_after at slots move) ++ below) best found
raced_goes s all at rest items best found p start slots fresh sought move frames below g other x =
    ⊎_elim (λ m. raced_moves s all at rest items best found p start slots fresh sought move frames below m other x)
    (λ d.
    subst (λ v. Races s all at (rest ++ resting_of start slots v) (items ++ p ∷ [])
    (waits start at (frames_of slots v ++ frames) (slots_after at slots v) ++ below) best found) (sym d.0)
    (subst (λ r. Races s all at r (items ++ p ∷ []) (waits start at frames slots ++ below) best found) (sym (append-nil rest))
    (raced_leaves s all at rest items best found p (trace start slots) (waits start at frames slots ++ below) d.1 sought x)))
    g

module _ (s : Sight) (at p start : ℕ) (g0 g : Growth) (best0 : Option Ending) (found0 : List (Option ℕ)) (sought : IsSought best0 start)
    (all below : List (Trace × Pair)) where
  abbrev pub Entering : Type 0
  Entering = Races s all at g0.threads.items g0.entered.items
      ((trace start g0.slots.items, (p, at)) ∷ (waits start at (reverse g0.stack.items) g0.slots.items ++ below)) best0 found0

  abbrev pub Entered : Option Ending → List (Option ℕ) → Type 0
  Entered best found = Races s all at g.threads.items g.entered.items (waits start at (reverse g.stack.items) g.slots.items ++ below) best found

  -- the place was entered before
  skipped_races : IsSkipped p g0 g → Entering → Entered best0 found0
  skipped_races m x =
      rw (m.threads, m.entered, m.frames, m.slots)
      (raced_skips s all at g0.threads.items g0.entered.items best0 found0 p (trace start g0.slots.items)
      (waits start at (reverse g0.stack.items) g0.slots.items ++ below) m.before sought x)

  -- it is entered, and no walk ends there
  moved_races : (move : Move) → IsEntered s at p start move g0 g → ((q : ℕ) → move ≢ Matches q) → Entering → Entered best0 found0
  moved_races move m other x =
      rw (m.threads, m.entered, m.frames, m.slots)
      (raced_goes s all at g0.threads.items g0.entered.items best0 found0 p start g0.slots.items m.fresh sought move (reverse g0.stack.items) below m.goes
      other x)

  pub quiet_races : IsVisited s at p start None g0 g → Entering → Entered best0 found0
  quiet_races v = quiet s at p start g0 g v skipped_races moved_races

  -- a walk ends there
  pub ended_races : (q : ℕ) (best : Option Ending) (found : List (Option ℕ)) → IsVisited s at p start (Some q) g0 g →
      IsRecorded best0 found0 (record { pattern = q; start = start; end = at }) g.slots.items best found → Entering → Entered best found
  ended_races q best found v r x =
      let m = entered_end s at p start g0 g q v in
      let i = end_there s at p start g0 g q m in
      rw (same_threads s at p start g0 g (Matches q) q refl m, m.entered, m.frames)
      (⊎_elim
      (λ a. rw (a.1, a.2, m.slots)
      (raced_ignores s all at g0.threads.items g0.entered.items best0 found0 p (trace start g0.slots.items)
      (waits start at (reverse g0.stack.items) g0.slots.items ++ below) m.fresh i.1 a.0 sought x))
      (λ b. rw (b.1, b.2, m.slots)
      (raced_matches s all at g0.threads.items g0.entered.items best0 found0 p q start g0.slots.items
      (waits start at (reverse g0.stack.items) g0.slots.items ++ below) m.fresh i.0 i.1 b.0 sought x)) r)
