-- A place is entered and no move is made, since no walk leads on from there.
use Rattle.std.proofs.Common.{◌≡◌, ◌≢◌, ℕ, ◌≤◌, ◌⊎◌, List, [], ◌∷◌, ◌++◌, map, inl, inr, ⊎_elim, sym, subst, IsTrue, Option, Some, None, option_map}
use Rattle.std.proofs.lemmas.Bool.{cases_lt}
use Rattle.std.proofs.lemmas.List.{append-nil}
use Rattle.rc_text.specs.Found.{Found}
use Rattle.rc_walks.specs.Walks.{Pair, IsWalk, stops, goes, HasNoWalk}
use Rattle.rc_walks.specs.Threads.{IsFirstOf, passes, Pends}
use Rattle.rc_walks.proofs.ThreadLemmas.{AllAlike, dead_alike, keeps_off, of_alike, of_rest}
use Rattle.rc_pikevm.specs.Sights.{Sight, IsUpTo, ends, ends_to, next_of, next_to}
use Rattle.rc_pikevm.specs.Alone.{IsDead}
use Rattle.rc_pikevm.specs.Entered.{Goes}
use Rattle.rc_pikevm.specs.Entrances.{IsShut}
use Rattle.rc_pikevm.specs.Passing.{CarriesTo, pending, pairs, waits, resting_of, frames_of, slots_after}
use Rattle.rc_pikevm.specs.Races.{EndsThere, Each, AreWithin, IsRacing, upto}
use Rattle.rc_pikevm.specs.Sparse.{Has}
use Rattle.rc_pikevm.specs.Spread.{Runner, SomeSpells, Offers, IsTop, Seeks, BeginFrom, running, runners_of, span_of}
use Rattle.rc_pikevm.specs.Threads.{Thread}
use Rattle.rc_pikevm.specs.Trace.{Trace, note, trace}
use Rattle.rc_pikevm.specs.declared.growth.Frame.{Frame}
use Rattle.rc_pikevm.specs.declared.moves.Move.{Move}
use Rattle.rc_pikevm.specs.declared.moves.Move.TheVariants.{Matches}
use Rattle.rc_pikevm.specs.declared.pass.Ending.{Ending}
use Rattle.rc_pikevm.proofs.EnteredLemmas.{pairs_push}
use Rattle.rc_pikevm.proofs.MoveLemmas.{moved}
use Rattle.rc_pikevm.proofs.RaceListLemmas.{upto_in, upto_out, each_swap, rising_swap, rising_tail}
use Rattle.rc_pikevm.proofs.SpreadLemmas.{Narrows, top_back, fewer_spells, no_greater_self}
use Rattle.rc_pikevm.proofs.SpreadMoveLemmas.{moved_on}

module _ (ways : Pair → List Pair) (Ends : Pair → Type 0) (H : Type 0) (note : H → Pair → H) (n : Pair) (v : List Pair) where
  -- a pair from which no walk leads on makes no difference to others
  pub all_alike : HasNoWalk ways Ends v (n ∷ []) → (ts : List (H × Pair)) → AllAlike ways Ends H note (n ∷ v) v ts
  all_alike none [] = tt
  all_alike none (t ∷ ts) = (dead_alike ways Ends n v (t.1 ∷ []) none, all_alike none ts)

  pub without : {R : Option H → Type 0} (ts : List (H × Pair)) (o : Option H) → HasNoWalk ways Ends v (n ∷ []) →
      IsFirstOf ways Ends H note (n ∷ v) R ts o → IsFirstOf ways Ends H note v R ts o
  without ts o none x = of_alike ways Ends H note x (all_alike none ts)

-- a walk that may end at one position is one that may end wherever
pub ends_there : {ways : Pair → List Pair} {Ends : Pair → Type 0} {e : ℕ} {p f w : List Pair} → IsWalk ways (EndsThere Ends e) p f w →
    IsWalk ways Ends p f w
ends_there (stops n h fresh end) = stops n h fresh end.0
ends_there (goes n h fresh rest) = goes n h fresh (ends_there rest)

module _ (s : Sight) (at : ℕ) (rest : List Thread) (items : List ℕ) where
  module _ (limit : Option ℕ) (le : IsUpTo at limit) (best o : Option Trace) (p : ℕ) where
    -- what a thread gives that goes on by the move
    left_out : (h : Trace) (ts : List (Trace × Pair)) → IsShut s (p, at) →
        CarriesTo limit s at rest (items ++ p ∷ []) ts best o → CarriesTo limit s at rest items ((h, (p, at)) ∷ ts) best o
    left_out h ts dead x =
        let none = dead limit le (pairs at items) in
        of_rest (next_to limit s) (λ n. IsTrue (ends_to limit s n)) Trace (note s.places)
        (λ q y. passes (h, (p, at)) none (without (next_to limit s) (λ n. IsTrue (ends_to limit s n)) Trace (note s.places) (p, at) (pairs at items) ts q none y))
        (subst (λ v. Pends (next_to limit s) (λ n. IsTrue (ends_to limit s n)) Trace (note s.places) (map pending rest) v ts best o) (pairs_push at p items) x)

    pub gone_on : (start : ℕ) (slots : List (Option ℕ)) → ¬ Has items p → (move : Move) (frames : List Frame)
        (below : List (Trace × Pair)) → Goes s (p, at) move → ((q : ℕ) → move ≢ Matches q) →
        CarriesTo limit s at (rest ++ resting_of start slots move) (items ++ p ∷ [])
        (waits start at (frames_of slots move ++ frames) (slots_after at slots move) ++ below) best o →
        CarriesTo limit s at rest items ((trace start slots, (p, at)) ∷ (waits start at frames slots ++ below)) best o
    gone_on start slots fresh move frames below g other x =
        ⊎_elim (λ m. moved limit s at rest items best o le p start slots fresh move frames below m other x)
        (λ d. left_out (trace start slots) (waits start at frames slots ++ below) d.1
        (subst (λ r. CarriesTo limit s at r (items ++ p ∷ []) (waits start at frames slots ++ below) best o) (append-nil rest)
        (subst (λ v. CarriesTo limit s at (rest ++ resting_of start slots v) (items ++ p ∷ [])
        (waits start at (frames_of slots v ++ frames) (slots_after at slots v) ++ below) best o) d.0 x)))
        g

  -- the same of runners
  spells_on : (n : Pair) (v : List Pair) → IsDead s v n → (ts : List Runner) (m : Found) → SomeSpells s v ts m → SomeSpells s (n ∷ v) ts m
  spells_on n v none [] m h = h
  spells_on n v none (r ∷ rs) m h =
      ⊎_elim
      (λ a. inl (record {
        start = a.start;
        walk = a.walk;
        is_walk = keeps_off (next_of s) (λ k. IsTrue (ends s k)) n none a.is_walk;
        pattern = a.pattern;
        position = a.position;
      }))
      (λ b. inr (spells_on n v none rs m b)) h

  left_narrow : (R E : Found → Type 0) (c : ℕ) (n : Pair) (v : List Pair) (ts : List Runner) → IsDead s v n →
      Narrows (λ m. R m ⊎ (SomeSpells s v ((c, n) ∷ ts) m ⊎ E m)) (λ m. R m ⊎ (SomeSpells s (n ∷ v) ts m ⊎ E m))
  left_narrow R E c n v ts none = record {
    fewer = λ m h. ⊎_elim (λ a. inl a) (λ b. inr (⊎_elim (λ x. inl (inr (fewer_spells s n v ts m x))) (λ x. inr x) b)) h;
    enough = λ m h. ⊎_elim (λ a. (m, inl a, no_greater_self m)) (λ b. ⊎_elim
        (λ x. ⊎_elim (λ y. absurd (none y.walk y.is_walk)) (λ y. (m, inr (inl (spells_on n v none ts m y)), no_greater_self m)) x)
        (λ x. (m, inr (inr x), no_greater_self m)) b) h;
  }

  left_seeks : (best : Option Ending) (o : Option Found) (p start : ℕ) (ts : List Runner) → IsShut s (p, at) →
      Seeks s at rest (items ++ p ∷ []) ts best o → Seeks s at rest items ((start, (p, at)) ∷ ts) best o
  left_seeks best o p start ts dead x =
      top_back (Offers s at rest items ((start, (p, at)) ∷ ts) best)
      (λ m. SomeSpells s [] (map running rest) m ⊎ (SomeSpells s ((p, at) ∷ pairs at items) ts m ⊎ (option_map span_of best ≡ Some m))) o
      (left_narrow (SomeSpells s [] (map running rest)) (λ m. option_map span_of best ≡ Some m) start (p, at) (pairs at items) ts (dead None tt (pairs at items)))
      (subst (λ v. IsTop (λ m. SomeSpells s [] (map running rest) m ⊎ (SomeSpells s v ts m ⊎ (option_map span_of best ≡ Some m))) o)
      (pairs_push at p items) x)

  pub seeks_on : (best : Option Ending) (o : Option Found) (p start : ℕ) → ¬ Has items p → (move : Move) (frames : List Frame)
      (below : List Runner) → Goes s (p, at) move → ((q : ℕ) → move ≢ Matches q) → BeginFrom start below →
      Seeks s at (rest ++ resting_of start [] move) (items ++ p ∷ []) (runners_of start at (frames_of [] move ++ frames) ++ below) best o →
      Seeks s at rest items ((start, (p, at)) ∷ (runners_of start at frames ++ below)) best o
  seeks_on best o p start fresh move frames below g other low x =
      ⊎_elim (λ m. moved_on s at rest items best o p start fresh move frames below m other low x)
      (λ d. left_seeks best o p start (runners_of start at frames ++ below) d.1
      (subst (λ r. Seeks s at r (items ++ p ∷ []) (runners_of start at frames ++ below) best o) (append-nil rest)
      (subst (λ v. Seeks s at (rest ++ resting_of start [] v) (items ++ p ∷ []) (runners_of start at (frames_of [] v ++ frames) ++ below) best o)
      d.0 x)))
      g

-- the same of a pass for the longest walk, over any graph
module _ (ways : Pair → List Pair) (Ends : Pair → Type 0) (H : Type 0) (note : H → Pair → H) (start : H → ℕ) where
  state_leaves : (y e : ℕ) (rs : List (H × Pair)) (v : List Pair) (t : H × Pair) (ts : List (H × Pair)) (o : Option H) → HasNoWalk ways Ends v (t.1 ∷ []) →
      Pends ways (EndsThere Ends e) H note (upto start y rs) (t.1 ∷ v) (upto start y ts) None o →
      Pends ways (EndsThere Ends e) H note (upto start y rs) v (upto start y (t ∷ ts)) None o
  state_leaves y e rs v t ts o dead x =
      let none : HasNoWalk ways (EndsThere Ends e) v (t.1 ∷ []) = λ w b. dead w (ends_there b) in
      ⊎_elim
      (λ l. subst (λ k. Pends ways (EndsThere Ends e) H note (upto start y rs) v k None o) (sym (upto_out H start y t ts l))
      (of_rest ways (EndsThere Ends e) H note (λ q z. without ways (EndsThere Ends e) H note t.1 v (upto start y ts) q none z) x))
      (λ g. subst (λ k. Pends ways (EndsThere Ends e) H note (upto start y rs) v k None o) (sym (upto_in H start y t ts g))
      (of_rest ways (EndsThere Ends e) H note (λ q z. passes t none (without ways (EndsThere Ends e) H note t.1 v (upto start y ts) q none z)) x))
      (cases_lt y (start t.0))

  pub race_leaves : (all : List (H × Pair)) (at : ℕ) (rs : List (H × Pair)) (v : List Pair) (best : Option (H × ℕ)) (t : H × Pair) (ts : List (H × Pair)) →
      t.1.1 ≤ at → HasNoWalk ways Ends v (t.1 ∷ []) → IsRacing ways Ends H note start all at rs v (t ∷ ts) best →
      IsRacing ways Ends H note start all at rs (t.1 ∷ v) ts best
  race_leaves all at rs v best t ts now dead r = record {
    carries = λ y e o sought x. r.carries y e o sought (state_leaves y e rs v t ts o dead x);
    known = r.known;
    rising = rising_swap H start rs (t ∷ ts) ts (λ P h. h.1) (rising_tail H start rs (t ∷ ts) r.rising).1 r.rising;
    within = within_all best rs (t ∷ ts) ts (λ P h. h.1) r.within;
    later = r.later;
    here = λ k i. ⊎_elim (λ q. subst (λ (n : Pair). n.1 ≤ at) q now) (λ j. r.here k j) i;
  }
    where
      within_all : (b : Option (H × ℕ)) (rs a c : List (H × Pair)) → ((Holds : ℕ → Type 0) → Each start Holds a → Each start Holds c) →
          AreWithin start b (rs ++ a) → AreWithin start b (rs ++ c)
      within_all None rs a c f w = tt
      within_all (Some b) rs a c f w = each_swap H start (λ y. y ≤ start b.0) rs a c (f (λ y. y ≤ start b.0)) w
