-- What a thread's entering of a place does to what pends.
use Rattle.std.proofs.Common.{◌≡◌, ◌≢◌, ℕ, zero, suc, ◌+◌, ◌<◌, ◌≤◌, List, [], ◌∷◌, ◌++◌, length, map, ⊎_elim, sym, subst, ap, ◌∙◌, refl, arith, false, true≢false, IsTrue, Option, Some, None, slice_index_or, slice_set}
use Rattle.std.proofs.lemmas.Bool.{cases_lt, lt-ltb, le-ltb}
use Rattle.std.proofs.lemmas.List.{set-get_or, set-set, map-append, append-nil}
use Rattle.rc_walks.specs.Walks.{Pair, IsIn}
use Rattle.rc_walks.specs.Threads.{Pends, threads, AllPast}
use Rattle.rc_walks.proofs.ThreadLemmas.{of_none, of_rest, skips_pends, enters_pends, matches_pends}
use Rattle.rc_program.specs.Program.{slot, accept, place_at, ways_out, pair_at, is_match_place}
use Rattle.rc_program.specs.Columns.{column_at}
use Rattle.rc_program.specs.Text.{holds, ahead}
use Rattle.rc_program.specs.Answer.{only}
use Rattle.rc_pikevm.specs.Sights.{Sight, IsUpTo, ends, ends_to, next_of, next_to}
use Rattle.rc_program.proofs.WayLemmas.{same_pair, ways_onward}
use Rattle.rc_pikevm.proofs.SightLemmas.{ends_at, last_to, next_at, onward_to}
use Rattle.rc_pikevm.specs.Sparse.{Has}
use Rattle.rc_pikevm.specs.Threads.{Thread}
use Rattle.rc_pikevm.specs.Trace.{Trace, note, note_at, trace, done}
use Rattle.rc_pikevm.specs.Moves.{IsMove, IsPlain}
use Rattle.rc_pikevm.specs.Passing.{pending, pairs, waits, resting_of, frames_of, slots_after, CarriesTo}
use Rattle.rc_pikevm.specs.declared.moves.Move.{Move}
use Rattle.rc_pikevm.specs.declared.moves.Move.TheVariants.{Fork, Save, Matches, Stays, Reads, DeadEnd}
use Rattle.rc_pikevm.specs.declared.growth.Frame.{Frame}
use Rattle.rc_pikevm.proofs.PassLemmas.{waits_pends, turned_pends}
use Rattle.rc_pikevm.proofs.EnteredLemmas.{has_pairs, pairs_has, pairs_at, pairs_push}

-- the old value goes back
pub back : (slots : List (Option ℕ)) (k : ℕ) (v : Option ℕ) → slice_set (slice_set slots k v) k (slice_index_or slots k None) ≡ slots
back slots k v = set-set slots k v (slice_index_or slots k None) ∙ set-get_or slots k None

-- there is no such slot
pub no_slot : (slots : List (Option ℕ)) (k : ℕ) (v : Option ℕ) → length slots ≤ k → slice_set slots k v ≡ slots
no_slot [] k v h = cc
no_slot (s ∷ slots) zero v h = absurd (omega arith)
no_slot (s ∷ slots) (suc k) v h = ap (λ l. s ∷ l) (no_slot slots k v (omega arith))

-- what waits on the stack once the position stands in a slot
pub waits_saved : (start at k n : ℕ) (slots : List (Option ℕ)) (frames : List Frame) →
    waits start at (frames_of slots (Save k n) ++ frames) (slice_set slots k (Some at))
    ≡ (trace start (slice_set slots k (Some at)), (n, at)) ∷ waits start at frames slots
waits_saved start at k n slots frames =
    ⊎_elim
    (λ l. rw (lt-ltb k (length slots) l)
    (ap (λ z. (trace start (slice_set slots k (Some at)), (n, at)) ∷ waits start at frames z) (back slots k (Some at))))
    (λ ge. rw (le-ltb k (length slots) ge)
    (ap (λ z. (trace start (slice_set slots k (Some at)), (n, at)) ∷ waits start at frames z) (no_slot slots k (Some at) ge)))
    (cases_lt k (length slots))

-- no walk ends at a slot
pub slot_on : (pattern : Option ℕ) (k n : ℕ) → is_match_place pattern (slot k n) ≡ false
slot_on None k n = refl
slot_on (Some p) k n = refl

module _ (s : Sight) where
  abbrev pub Ends : Pair → Type 0
  Ends n = IsTrue (ends s n)

  pub onward : (n m : Pair) → IsIn m (next_of s n) → n.1 ≤ m.1
  onward n m i = ways_onward s.places s.text s.hi n m i

module _ (limit : Option ℕ) (s : Sight) where
  abbrev pub EndsTo : Pair → Type 0
  EndsTo n = IsTrue (ends_to limit s n)

  -- a thread goes on at a later position
  pub waited : (at : ℕ) (rest : List Thread) (items : List ℕ) (best o : Option Trace) (t : Thread) (ts : List (Trace × Pair)) → at < t.at →
      CarriesTo limit s at (rest ++ t ∷ []) items ts best o → CarriesTo limit s at rest items (pending t ∷ ts) best o
  waited at rest items best o t ts later x =
      waits_pends (next_to limit s) EndsTo Trace (note s.places) (onward_to limit s) at (map pending rest) (pending t) (pairs at items) best ts o later
      (λ k i. let e : k.1 ≡ at = pairs_at at items k i in omega arith)
      (subst (λ r. Pends (next_to limit s) EndsTo Trace (note s.places) r (pairs at items) ts best o) (map-append pending rest (t ∷ [])) x)

  module _ (at : ℕ) (rest : List Thread) (items : List ℕ) (best o : Option Trace) where
    -- the place was entered already
    pub skipped : (p : ℕ) (h : Trace) (ts : List (Trace × Pair)) → Has items p → CarriesTo limit s at rest items ts best o →
        CarriesTo limit s at rest items ((h, (p, at)) ∷ ts) best o
    skipped p h ts has x =
        of_rest (next_to limit s) EndsTo Trace (note s.places)
        (λ q y. skips_pends (next_to limit s) EndsTo Trace (note s.places) (h, (p, at)) (pairs at items) (λ z. z ≡ best) ts q (has_pairs at p items has) y) x

    -- all threads that wait go on at the next position
    pub turned : (ts : List (Trace × Pair)) → AllPast at ts → CarriesTo limit s (at + 1) [] [] (map pending rest ++ ts) best o → CarriesTo limit s at rest items ts best o
    turned ts high x =
        turned_pends (next_to limit s) EndsTo Trace (note s.places) (onward_to limit s) same_pair (last_to limit s) at (map pending rest) (pairs at items) best ts o
        (λ k i. let e : k.1 ≡ at = pairs_at at items k i in omega arith) high x

    module _ (le : IsUpTo at limit) where
      -- the place is entered, and the threads go on by its ways
      pub entered_on : (p : ℕ) (h : Trace) (ts : List (Trace × Pair)) → ¬ Has items p → ends s (p, at) ≡ false →
          CarriesTo limit s at rest (items ++ p ∷ []) (threads (note s.places h (p, at)) (next_of s (p, at)) ++ ts) best o →
          CarriesTo limit s at rest items ((h, (p, at)) ∷ ts) best o
      entered_on p h ts fresh on x =
          of_rest (next_to limit s) EndsTo Trace (note s.places)
          (λ r y. enters_pends (next_to limit s) EndsTo Trace (note s.places) same_pair (last_to limit s) (h, (p, at)) (pairs at items) (λ z. z ≡ best) ts r
          (λ i. fresh (pairs_has at p items i)) (λ e. true≢false (sym e ∙ ends_at limit s (p, at) le ∙ on)) y)
          (subst (λ v. Pends (next_to limit s) EndsTo Trace (note s.places) (map pending rest) v
          (threads (note s.places h (p, at)) (next_to limit s (p, at)) ++ ts) best o)
          (pairs_push at p items)
          (subst (λ ms. CarriesTo limit s at rest (items ++ p ∷ []) (threads (note s.places h (p, at)) ms ++ ts) best o)
          (sym (next_at limit s (p, at) le)) x))

      -- a walk ends
      pub matched : (p pattern start : ℕ) (slots : List (Option ℕ)) (other : List ℕ) (ts : List (Trace × Pair)) → ¬ Has items p →
          place_at s.places p ≡ accept pattern → IsTrue (ends s (p, at)) → CarriesTo limit s at rest other [] (Some (done pattern start at slots)) o →
          CarriesTo limit s at rest items ((trace start slots, (p, at)) ∷ ts) best o
      matched p pattern start slots other ts fresh is end x =
          of_rest (next_to limit s) EndsTo Trace (note s.places)
          (λ q y. matches_pends (next_to limit s) EndsTo Trace (note s.places) same_pair (last_to limit s) (trace start slots, (p, at)) (pairs at items) (λ z. z ≡ best) ts q
          (λ i. fresh (pairs_has at p items i)) (ends_at limit s (p, at) le ∙ end)
          (of_none (next_to limit s) EndsTo Trace (note s.places) y ∙ ap Some (sym (ap (λ z. note_at (column_at s.places p) z (trace start slots) at) is)))) x

      module _ (p start : ℕ) (slots : List (Option ℕ)) (fresh : ¬ Has items p) where
        here : Trace
        here = trace start slots

        pub plain_on : (ms : List Pair) (ts : List (Trace × Pair)) → next_of s (p, at) ≡ ms → IsPlain s (p, at) →
            CarriesTo limit s at rest (items ++ p ∷ []) (threads (trace start slots) ms ++ ts) best o → CarriesTo limit s at rest items ((trace start slots, (p, at)) ∷ ts) best o
        plain_on ms ts out plain x =
            entered_on p (trace start slots) ts fresh plain.on
            (subst (λ m. CarriesTo limit s at rest (items ++ p ∷ []) (threads (note s.places (trace start slots) (p, at)) m ++ ts) best o) (sym out)
            (subst (λ h. CarriesTo limit s at rest (items ++ p ∷ []) (threads h ms ++ ts) best o) (sym (plain.silent (trace start slots))) x))

        -- the place is entered, and its move is made
        pub moved : (move : Move) (frames : List Frame) (below : List (Trace × Pair)) → IsMove s (p, at) move → ((q : ℕ) → move ≢ Matches q) →
            CarriesTo limit s at (rest ++ resting_of start slots move) (items ++ p ∷ [])
            (waits start at (frames_of slots move ++ frames) (slots_after at slots move) ++ below) best o →
            CarriesTo limit s at rest items ((trace start slots, (p, at)) ∷ (waits start at frames slots ++ below)) best o
        moved (Fork a b) frames below m other x =
            plain_on ((a, at) ∷ (b, at) ∷ []) (waits start at frames slots ++ below) m.0 m.1
            (subst (λ r. CarriesTo limit s at r (items ++ p ∷ []) ((trace start slots, (a, at)) ∷ (trace start slots, (b, at)) ∷ (waits start at frames slots ++ below)) best o)
            (append-nil rest) x)
        moved (Stays n) frames below m other x =
            plain_on ((n, at) ∷ []) (waits start at frames slots ++ below) m.0 m.1
            (subst (λ r. CarriesTo limit s at r (items ++ p ∷ []) ((trace start slots, (n, at)) ∷ (waits start at frames slots ++ below)) best o) (append-nil rest) x)
        moved DeadEnd frames below m other x =
            entered_on p (trace start slots) (waits start at frames slots ++ below) fresh m.1
            (subst (λ ms. CarriesTo limit s at rest (items ++ p ∷ []) (threads (note s.places (trace start slots) (p, at)) ms ++ (waits start at frames slots ++ below)) best o)
            (sym m.0)
            (subst (λ r. CarriesTo limit s at r (items ++ p ∷ []) (waits start at frames slots ++ below) best o) (append-nil rest) x))
        moved (Matches q) frames below m other x = absurd (other q refl)
        moved (Reads n to) frames below m other x =
            plain_on ((n, to) ∷ []) (waits start at frames slots ++ below) m.0 m.1
            (waited at rest (items ++ p ∷ []) best o (record { place = n; at = to; start = start; slots = slots }) (waits start at frames slots ++ below) m.2 x)
        moved (Save k n) frames below m other x =
            entered_on p (trace start slots) (waits start at frames slots ++ below) fresh
            (ap (is_match_place (only s.anchoring)) m.1 ∙ slot_on (only s.anchoring) m.0 n)
            (subst (λ q. CarriesTo limit s at rest (items ++ p ∷ [])
            (threads (note_at (column_at s.places p) q (trace start slots) at) (map (pair_at at) (ways_out (λ l. holds s.text l at) (ahead s.text s.hi at) q))
            ++ (waits start at frames slots ++ below)) best o) (sym m.1)
            (subst (λ j. CarriesTo limit s at rest (items ++ p ∷ []) ((trace start (slice_set slots j (Some at)), (n, at)) ∷ (waits start at frames slots ++ below)) best o) m.2
            (subst (λ ws. CarriesTo limit s at rest (items ++ p ∷ []) (ws ++ below) best o) (waits_saved start at k n slots frames)
            (subst (λ r. CarriesTo limit s at r (items ++ p ∷ []) (waits start at (frames_of slots (Save k n) ++ frames) (slice_set slots k (Some at)) ++ below) best o)
            (append-nil rest) x))))
