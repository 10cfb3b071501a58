-- What a thread's entering of a place does to the patterns that are owed.
use Rattle.std.proofs.Common.{◌≡◌, ◌≢◌, ◌↔◌, ℕ, ◌+◌, ◌<◌, ◌≤◌, ◌⊎◌, Bool, true, false, List, [], ◌∷◌, ◌++◌, length, map, set, reverse, inl, inr, ⊎_elim, sym, subst, ap, ◌∙◌, refl, arith, IsTrue, Some, None}
use Rattle.std.proofs.lemmas.Bool.{le-ltb}
use Rattle.std.proofs.lemmas.List.{map-append, append-nil}
use Rattle.rc_pattern_set.specs.Sets.{Has as IsMember}
use Rattle.rc_walks.specs.Walks.{Pair, IsIn, IsWalk}
use Rattle.rc_walks.proofs.ThreadLemmas.{fewer_passed, keeps_off}
use Rattle.rc_program.specs.Program.{choice, accept, place_at, ways_out, pair_at, is_match_place}
use Rattle.rc_program.specs.Text.{holds, ahead}
use Rattle.rc_program.specs.Answer.{only}
use Rattle.rc_pikevm.specs.Sights.{Sight, ends, next_of}
use Rattle.rc_pikevm.specs.Entered.{Goes, IsSkipped, IsEntered, IsVisited}
use Rattle.rc_pikevm.specs.Alone.{IsDead}
use Rattle.rc_pikevm.specs.Fronts.{LeadsOnlyTo}
use Rattle.rc_pikevm.specs.Entrances.{AreWays, IsOnWay, IsShut, IsWayIn, stays_in, goes_in}
use Rattle.rc_pikevm.specs.Marking.{LeadsToPattern, SomeLeads, Owed, going, explored}
use Rattle.rc_pikevm.specs.Moves.{IsMove}
use Rattle.rc_pikevm.specs.Passing.{pairs, resting_of, frames_of}
use Rattle.rc_pikevm.specs.Sparse.{Has}
use Rattle.rc_pikevm.specs.Threads.{Thread}
use Rattle.rc_pikevm.specs.declared.growth.Frame.{Frame}
use Rattle.rc_pikevm.specs.declared.growth.Frame.TheVariants.{Explore}
use Rattle.rc_pikevm.specs.declared.growth.Growth.{Growth}
use Rattle.rc_pikevm.specs.declared.moves.Move.{Move}
use Rattle.rc_pikevm.specs.declared.moves.Move.TheVariants.{Fork, Save, Matches, Stays, Reads, DeadEnd}
use Rattle.rc_pikevm.proofs.EnteredLemmas.{has_pairs, pairs_has, pairs_at, pairs_push}
use Rattle.rc_pikevm.proofs.EntranceLemmas.{choice_on, forks, ways_by, leads_out}
use Rattle.rc_pikevm.proofs.MarkLemmas.{enters_same, forks_same, matches_same, skips_same, way_same, later_same, some_left, some_right, some_parts, AllLater}
use Rattle.rc_pikevm.proofs.MoveLemmas.{slot_on}
use Rattle.rc_pikevm.proofs.VisitLemmas.{no_slots, same_threads, quiet, entered_end, end_there}

pub same_then : {A B C : Type 0} → A ↔ B → B ↔ C → A ↔ C
same_then f g = (λ a. g.0 (f.0 a), λ c. f.1 (g.1 c))

-- the middle part is the same, or the last two
pub middle : {R A B E : Type 0} → A ↔ B → (R ⊎ (A ⊎ E)) ↔ (R ⊎ (B ⊎ E))
middle f = (
  λ h. ⊎_elim (λ a. inl a) (λ b. inr (⊎_elim (λ x. inl (f.0 x)) (λ x. inr x) b)) h,
  λ h. ⊎_elim (λ a. inl a) (λ b. inr (⊎_elim (λ x. inl (f.1 x)) (λ x. inr x) b)) h,
)

last_two : {R A B : Type 0} → A ↔ B → (R ⊎ A) ↔ (R ⊎ B)
last_two f = (λ h. ⊎_elim (λ a. inl a) (λ b. inr (f.0 b)) h, λ h. ⊎_elim (λ a. inl a) (λ b. inr (f.1 b)) h)

module _ (s : Sight) (p at : ℕ) (marks : List Bool) where
  low_pairs : (items : List ℕ) (k : Pair) → IsIn k (pairs at items) → k.1 ≤ at
  low_pairs items k i = let e : k.1 ≡ at = pairs_at at items k i in omega arith

  -- a thread goes on at a later position
  pub later_waits : (rest : List Thread) (items : List ℕ) (t : Thread) (ts : List Pair) → at < t.at →
      Owed s at rest items (going t ∷ ts) marks p ↔ Owed s at (rest ++ t ∷ []) items ts marks p
  later_waits rest items t ts later =
      let r = later_same s p at (pairs at items) (going t ∷ []) (low_pairs items) (later, tt) in
      let e : map going (rest ++ t ∷ []) ≡ map going rest ++ going t ∷ [] = map-append going rest (t ∷ []) in (
        λ h. ⊎_elim (λ a. inl (rw e (some_left s p [] (map going rest) (going t ∷ []) a)))
            (λ b. ⊎_elim
            (λ x. ⊎_elim (λ y. inl (rw e (some_right s p [] (map going rest) (going t ∷ []) (r.0 (inl y))))) (λ y. inr (inl y)) x)
            (λ x. inr (inr x)) b) h,
        λ h. ⊎_elim
            (λ a. ⊎_elim (λ x. inl x) (λ x. ⊎_elim (λ y. inr (inl (inl y))) (λ never. absurd never) (r.1 x))
            (some_parts s p [] (map going rest) (going t ∷ []) (rw e at a)))
            (λ b. inr (⊎_elim (λ x. inl (inr x)) (λ x. inr x) b)) h,
      )

  -- all threads that wait go on at the next position
  pub turned_over : (rest : List Thread) (items : List ℕ) (ts : List Pair) → AllLater s p at ts →
      Owed s at rest items ts marks p ↔ Owed s (at + 1) [] [] (map going rest ++ ts) marks p
  turned_over rest items ts all =
      let r = later_same s p at (pairs at items) ts (low_pairs items) all in (
        λ h. ⊎_elim (λ a. inr (inl (some_left s p [] (map going rest) ts a)))
            (λ b. ⊎_elim (λ x. inr (inl (some_right s p [] (map going rest) ts (r.0 x)))) (λ x. inr (inr x)) b) h,
        λ h. ⊎_elim (λ never. absurd never)
            (λ b. ⊎_elim
            (λ x. ⊎_elim (λ y. inl y) (λ y. inr (inl (r.1 y))) (some_parts s p [] (map going rest) ts x)) (λ x. inr (inr x)) b) h,
      )

  module _ (rest : List Thread) (items : List ℕ) (q start : ℕ) where
    -- the place was entered already
    pub passed_over : (ts : List Pair) → Has items q → Owed s at rest items ((q, at) ∷ ts) marks p ↔ Owed s at rest items ts marks p
    passed_over ts has = middle (skips_same s p (q, at) (pairs at items) ts (has_pairs at q items has))

    module _ (fresh : ¬ Has items q) where
      -- a walk ends
      pub ended_here : (number : ℕ) (ts : List Pair) → IsTrue (ends s (q, at)) → place_at s.places q ≡ accept number → p < length marks →
          Owed s at rest items ((q, at) ∷ ts) marks p ↔ Owed s at rest (items ++ q ∷ []) ts (set marks number true) p
      ended_here number ts end is low =
          subst (λ v. Owed s at rest items ((q, at) ∷ ts) marks p
          ↔ (SomeLeads s [] (map going rest) p ⊎ (SomeLeads s v ts p ⊎ IsMember (set marks number true) p))) (sym (pairs_push at q items))
          (last_two (matches_same s p (q, at) (pairs at items) number marks ts (λ i. fresh (pairs_has at q items i)) end is low))

      -- the place is entered, and its ways are followed
      ways_on : (ms ts : List Pair) → next_of s (q, at) ≡ ms → ends s (q, at) ≡ false →
          Owed s at rest items ((q, at) ∷ ts) marks p ↔ Owed s at rest (items ++ q ∷ []) (ms ++ ts) marks p
      ways_on ms ts out on =
          subst (λ v. Owed s at rest items ((q, at) ∷ ts) marks p
          ↔ (SomeLeads s [] (map going rest) p ⊎ (SomeLeads s v (ms ++ ts) p ⊎ IsMember marks p))) (sym (pairs_push at q items))
          (subst (λ ns. Owed s at rest items ((q, at) ∷ ts) marks p
          ↔ (SomeLeads s [] (map going rest) p ⊎ (SomeLeads s ((q, at) ∷ pairs at items) (ns ++ ts) p ⊎ IsMember marks p))) out
          (middle (enters_same s p (q, at) (pairs at items) ts (λ i. fresh (pairs_has at q items i)) on)))

      -- the place is entered, and its move is made
      pub moved_on : (move : Move) (frames : List Frame) (below : List Pair) → IsMove s (q, at) move → ((k : ℕ) → move ≢ Matches k) →
          Owed s at rest items ((q, at) ∷ (explored at frames ++ below)) marks p
          ↔ Owed s at (rest ++ resting_of start [] move) (items ++ q ∷ []) (explored at (frames_of [] move ++ frames) ++ below) marks p
      moved_on (Fork a b) frames below m other =
          rw append-nil (ways_on ((a, at) ∷ (b, at) ∷ []) (explored at frames ++ below) m.0 m.1.on)
      moved_on (Stays n) frames below m other = rw append-nil (ways_on ((n, at) ∷ []) (explored at frames ++ below) m.0 m.1.on)
      moved_on DeadEnd frames below m other = rw append-nil (ways_on [] (explored at frames ++ below) m.0 m.1)
      moved_on (Matches k) frames below m other = absurd (other k refl)
      moved_on (Reads n to) frames below m other =
          same_then (ways_on ((n, to) ∷ []) (explored at frames ++ below) m.0 m.1.on)
          (later_waits rest (items ++ q ∷ []) (record { place = n; at = to; start = start; slots = [] }) (explored at frames ++ below) m.2)
      moved_on (Save k n) frames below m other =
          let e : frames_of [] (Save k n) ≡ Explore n ∷ [] = rw (le-ltb k 0 (omega arith)) refl in
          rw append-nil
          (subst (λ fs. Owed s at rest items ((q, at) ∷ (explored at frames ++ below)) marks p
          ↔ Owed s at rest (items ++ q ∷ []) (explored at (fs ++ frames) ++ below) marks p) (sym e)
          (ways_on ((n, at) ∷ []) (explored at frames ++ below)
          (ap (λ q. map (pair_at at) (ways_out (λ l. holds s.text l at) (ahead s.text s.hi at) q)) m.1)
          (ap (is_match_place (only s.anchoring)) m.1 ∙ slot_on (only s.anchoring) m.0 n)))

-- the patterns to which walks lead are the same, where other pairs were passed
leads_by : (s : Sight) (p : ℕ) (v u : List Pair) →
    ((f w : List Pair) → IsWalk (next_of s) (λ k. IsTrue (ends s k)) v f w → IsWalk (next_of s) (λ k. IsTrue (ends s k)) u f w) →
    (ns : List Pair) → SomeLeads s v ns p → SomeLeads s u ns p
leads_by s p v u f [] h = h
leads_by s p v u f (n ∷ ns) h =
    ⊎_elim (λ a. inl (record { walk = a.walk; is_walk = f (n ∷ []) a.walk a.is_walk; pattern = a.pattern })) (λ b. inr (leads_by s p v u f ns b)) h

-- a pair from which no walk leads on leads to no pattern
leads_without : (s : Sight) (p : ℕ) (n : Pair) (v ns : List Pair) → IsDead s v n → SomeLeads s v (n ∷ ns) p ↔ SomeLeads s (n ∷ v) ns p
leads_without s p n v ns none = (
  λ h. ⊎_elim (λ a. absurd (none a.walk a.is_walk))
      (λ b. leads_by s p v (n ∷ v) (λ f w x. keeps_off (next_of s) (λ k. IsTrue (ends s k)) n none x) ns b) h,
  λ h. inr (leads_by s p (n ∷ v) v (λ f w x. fewer_passed (next_of s) (λ k. IsTrue (ends s k)) n x) ns h),
)

-- the place is entered, and the move is made
gone_on : (s : Sight) (p at : ℕ) (marks : List Bool) (rest : List Thread) (items : List ℕ) (q start : ℕ) → ¬ Has items q → (move : Move)
    (frames : List Frame) (below : List Pair) → Goes s (q, at) move → ((k : ℕ) → move ≢ Matches k) →
    Owed s at rest items ((q, at) ∷ (explored at frames ++ below)) marks p
    ↔ Owed s at (rest ++ resting_of start [] move) (items ++ q ∷ []) (explored at (frames_of [] move ++ frames) ++ below) marks p
gone_on s p at marks rest items q start fresh move frames below g other =
    ⊎_elim (λ m. moved_on s p at marks rest items q start fresh move frames below m other)
    (λ d.
    let ts = explored at frames ++ below in
    subst (λ v. Owed s at rest items ((q, at) ∷ ts) marks p
    ↔ Owed s at (rest ++ resting_of start [] v) (items ++ q ∷ []) (explored at (frames_of [] v ++ frames) ++ below) marks p) (sym d.0)
    (subst (λ r. Owed s at rest items ((q, at) ∷ ts) marks p ↔ Owed s at r (items ++ q ∷ []) ts marks p) (sym (append-nil rest))
    (subst (λ v. Owed s at rest items ((q, at) ∷ ts) marks p
    ↔ (SomeLeads s [] (map going rest) p ⊎ (SomeLeads s v ts p ⊎ IsMember marks p))) (sym (pairs_push at q items))
    (middle (leads_without s p (q, at) (pairs at items) ts (d.1 None tt (pairs at items)))))))
    g

module _ (s : Sight) (p at : ℕ) (marks : List Bool) (rest : List Thread) (items : List ℕ) (ts : List Pair) where
  -- the way on, of which the other way is shut
  owed_on : (q a b : ℕ) → ¬ Has items q → AreWays s q a b → IsShut s (b, at) →
      Owed s at rest items ((q, at) ∷ ts) marks p ↔ Owed s at rest items ((a, at) ∷ ts) marks p
  owed_on q a b fresh are shut =
      let c = forks s at q a b are in
      middle (way_same s p (q, at) (pairs at items) (a, at) ts (λ i. fresh (pairs_has at q items i))
      (ap (is_match_place (only s.anchoring)) c.1 ∙ choice_on (only s.anchoring) c.0) (leads_out s at q a b are) by_it)
    where
      avoided : List Pair
      avoided = (q, at) ∷ pairs at items

      none : LeadsToPattern s avoided (b, at) p → ⊥
      none h = shut None tt avoided h.walk h.is_walk

      by_it : SomeLeads s avoided (next_of s (q, at)) p → LeadsToPattern s avoided (a, at) p
      by_it h =
          ⊎_elim
          (λ e. ⊎_elim (λ x. x) (λ y. ⊎_elim (λ z. absurd (none z)) (λ z. absurd z) y)
          (subst (λ ms. SomeLeads s avoided ms p) (ways_by s at q (choice (a ∷ b ∷ [])) e) h))
          (λ e. ⊎_elim (λ z. absurd (none z)) (λ y. ⊎_elim (λ x. x) (λ z. absurd z) y)
          (subst (λ ms. SomeLeads s avoided ms p) (ways_by s at q (choice (b ∷ a ∷ [])) e) h))
          are

  owed_step : (q a : ℕ) → ¬ Has items q → IsOnWay s at q a →
      Owed s at rest items ((q, at) ∷ ts) marks p ↔ Owed s at rest items ((a, at) ∷ ts) marks p
  owed_step q a fresh way =
      ⊎_elim (λ e. subst (λ m. Owed s at rest items ((m, at) ∷ ts) marks p ↔ Owed s at rest items ((a, at) ∷ ts) marks p) e (λ x. x, λ x. x))
      (λ r. owed_on q a r.0 fresh r.1 r.2) way

  -- a thread enters in place of another
  pub owed_way_in : {q a : ℕ} → IsWayIn s at items q a →
      Owed s at rest items ((q, at) ∷ ts) marks p ↔ Owed s at rest items ((a, at) ∷ ts) marks p
  owed_way_in stays_in = (λ x. x, λ x. x)
  owed_way_in {q} {a} (goes_in {q = r} way fresh step) = same_then (owed_way_in way) (owed_step r a fresh step)

  -- both ways of a choice
  pub owed_forks : (q a b : ℕ) → ¬ Has items q → place_at s.places q ≡ choice (a ∷ b ∷ []) →
      Owed s at rest items ((q, at) ∷ ts) marks p ↔ Owed s at rest items ((a, at) ∷ (b, at) ∷ ts) marks p
  owed_forks q a b fresh is =
      subst (λ ns. Owed s at rest items ((q, at) ∷ ts) marks p ↔ Owed s at rest items (ns ++ ts) marks p) (ways_by s at q (choice (a ∷ b ∷ [])) is)
      (middle (forks_same s p (q, at) (pairs at items) ts (λ i. fresh (pairs_has at q items i))
      (ap (is_match_place (only s.anchoring)) is ∙ choice_on (only s.anchoring) (a ∷ b ∷ []))))

  -- a way that leads to a pattern that is marked, or to none
  pub owed_idle : (a number : ℕ) → IsMember marks number ⊎ IsShut s (a, at) → LeadsOnlyTo s.places a number →
      Owed s at rest items ((a, at) ∷ ts) marks p ↔ Owed s at rest items ts marks p
  owed_idle a number idle own = (
    λ h. ⊎_elim (λ x. inl x) (λ y. inr (⊎_elim (λ z. ⊎_elim (λ l. inr (known l)) (λ r. inl r) z) (λ m. inr m) y)) h,
    λ h. ⊎_elim (λ x. inl x) (λ y. inr (⊎_elim (λ z. inl (inr z)) (λ m. inr m) y)) h,
  )
    where
      known : LeadsToPattern s (pairs at items) (a, at) p → IsMember marks p
      known l =
          ⊎_elim
          (λ m. subst (IsMember marks) (sym (own s.text s.hi at p (ends s) (pairs at items) l.walk l.is_walk l.pattern)) m)
          (λ shut. absurd (shut None tt (pairs at items) l.walk l.is_walk)) idle

module _ (s : Sight) (at q start : ℕ) (g0 g : Growth) (below : List Pair) (marks : List Bool) (p : ℕ) where
  abbrev Before : Type 0
  Before = Owed s at g0.threads.items g0.entered.items ((q, at) ∷ (explored at (reverse g0.stack.items) ++ below)) marks p

  -- the place was entered before
  skipped_owed : IsSkipped q g0 g →
      Before ↔ Owed s at g.threads.items g.entered.items (explored at (reverse g.stack.items) ++ below) marks p
  skipped_owed m =
      rw (m.threads, m.entered, m.frames)
      (passed_over s p at marks g0.threads.items g0.entered.items q start (explored at (reverse g0.stack.items) ++ below) m.before)

  -- it is entered, and its move is made
  moved_owed : (move : Move) → IsEntered s at q start move g0 g → length g0.slots.items ≡ 0 → ((k : ℕ) → move ≢ Matches k) →
      Before ↔ Owed s at g.threads.items g.entered.items (explored at (reverse g.stack.items) ++ below) marks p
  moved_owed move m none other =
      rw (m.threads, m.entered, m.frames, no_slots g0.slots.items none)
      (gone_on s p at marks g0.threads.items g0.entered.items q start m.fresh move (reverse g0.stack.items) below m.goes other)

  -- no walk ends there
  pub quiet_owed : IsVisited s at q start None g0 g → length g0.slots.items ≡ 0 →
      Before ↔ Owed s at g.threads.items g.entered.items (explored at (reverse g.stack.items) ++ below) marks p
  quiet_owed v none = quiet s at q start g0 g v skipped_owed (λ move m other. moved_owed move m none other)

  -- a walk ends there
  pub ended_owed : (number : ℕ) → IsVisited s at q start (Some number) g0 g → p < length marks →
      Before ↔ Owed s at g.threads.items g.entered.items (explored at (reverse g.stack.items) ++ below) (set marks number true) p
  ended_owed number v low =
      let m = entered_end s at q start g0 g number v in
      let i = end_there s at q start g0 g number m in
      rw (same_threads s at q start g0 g (Matches number) number refl m, m.entered, m.frames)
      (ended_here s p at marks g0.threads.items g0.entered.items q start m.fresh number (explored at (reverse g0.stack.items) ++ below)
      i.1 i.0 low)

-- the pattern of a walk that ends has a number of `PatternID`
pub accepted : (s : Sight) (at q start : ℕ) (g0 g : Growth) (number : ℕ) → IsVisited s at q start (Some number) g0 g →
    ((n p : ℕ) → place_at s.places n ≡ accept p → p ≤ 2147483646) → number ≤ 2147483646
accepted s at q start g0 g number v numbered = numbered q number (end_there s at q start g0 g number (entered_end s at q start g0 g number v)).0

pub low_in : (p : ℕ) (set0 set : List Bool) → length set ≡ length set0 → p < length set0 → p < length set
low_in p set0 set e low = omega (arith, e, low)
