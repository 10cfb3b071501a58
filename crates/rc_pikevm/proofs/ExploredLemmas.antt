-- What a closure gives, by what each of its steps gives.
use Rattle.std.proofs.Common.{◌≡◌, ℕ, ◌+◌, ◌<◌, ◌≤◌, ◌↔◌, List, [], ◌∷◌, ◌++◌, Bool, true, length, reverse, MatchOption, Option, Some, None, ⊎_elim, refl, sym, ap, subst, ◌∙◌, arith, slice_set}
use Rattle.std.proofs.lemmas.Option.{none-some}
use Rattle.rc_text.specs.Found.{Found}
use Rattle.rc_walks.specs.Walks.{Pair}
use Rattle.rc_program.specs.Program.{accept, place_at}
use Rattle.rc_pikevm.specs.Sights.{Sight, IsUpTo}
use Rattle.rc_pikevm.specs.Threads.{ThreadList}
use Rattle.rc_pikevm.specs.Trace.{Trace, trace, done}
use Rattle.rc_pikevm.specs.Entered.{IsVisited}
use Rattle.rc_pikevm.specs.Explored.{Closure, Explores, Closes, begins, restores, enters}
use Rattle.rc_pikevm.specs.Marking.{Owed, explored}
use Rattle.rc_pikevm.specs.Passing.{CarriesTo, IsCounted, waits}
use Rattle.rc_pikevm.specs.Races.{Races, IsRecorded, IsSought}
use Rattle.rc_pikevm.specs.Spread.{Runner, Seeks, BeginFrom, IsGreater, IsOrdered, StaysCounted, runners_of}
use Rattle.rc_pikevm.specs.declared.growth.Growth.{Growth}
use Rattle.rc_pikevm.specs.declared.pass.Ending.{Ending}
use Rattle.rc_pikevm.proofs.EntranceLemmas.{carries_in}
use Rattle.rc_pikevm.proofs.MarkMoveLemmas.{same_then, owed_way_in, quiet_owed, ended_owed, accepted}
use Rattle.rc_pikevm.proofs.RaceMoveLemmas.{raced_way_in, quiet_races, ended_races}
use Rattle.rc_pikevm.proofs.SpreadMoveLemmas.{seeks_way_in}
use Rattle.rc_pikevm.proofs.VisitLemmas.{entered_end, visited_carries, visited_ordered, quiet_seeks, ended_seeks}
use Rattle.rc_pikevm.specs.declared.moves.Move.TheVariants.{Matches}

-- what becomes of the best walk and its slots: a walk that has ended is recorded
abbrev pub Records : ℕ → ℕ → Option ℕ → List (Option ℕ) → Option Ending → List (Option ℕ) → Option Ending → List (Option ℕ) → Type 0
Records start at None slots best0 found0 best found = (best ≡ best0) × (found ≡ found0)
Records start at (Some p) slots best0 found0 best found = IsRecorded best0 found0 (record { pattern = p; start = start; end = at }) slots best found

-- what becomes of the greatest walk
abbrev pub Greatens : ℕ → ℕ → Option ℕ → Option Ending → Option Ending → Type 0
Greatens start at None best0 best = best ≡ best0
Greatens start at (Some p) best0 best = (r : Ending) × (best ≡ Some r) × IsGreater best0 (record { pattern = p; start = start; end = at }) r

-- what becomes of the set
abbrev pub Marks : Option ℕ → List Bool → List Bool → Type 0
Marks None set0 set = set ≡ set0
Marks (Some p) set0 set = set ≡ slice_set set0 p true

module _ (s : Sight) (at start : ℕ) where
  pub explores_then : {a b c : Closure} {told : Option ℕ} → Explores s at start a None b → Explores s at start b told c → Explores s at start a told c
  explores_then x begins = x
  explores_then x (restores c e) = restores c (explores_then x e)
  explores_then x (enters e way v) = enters (explores_then x e) way v

  -- each thread has as many slots as before
  explored_width : {from c : Closure} {told : Option ℕ} → Explores s at start from told c → c.threads.width ≡ from.threads.width
  explored_width begins = refl
  explored_width (restores c e) = explored_width e
  explored_width (enters e way v) =
      ⊎_elim (λ a. ap (λ (l : ThreadList). l.width) a.0.threads) (λ b. ap (λ (l : ThreadList). l.width) b.1.threads) v ∙ explored_width e

  -- the pattern of a walk that ends has a number of `PatternID`
  pub explored_accepted : {from c : Closure} {told : Option ℕ} → Explores s at start from told c → (number : ℕ) → told ≡ Some number →
      ((n p : ℕ) → place_at s.places n ≡ accept p → p ≤ 2147483646) → number ≤ 2147483646
  explored_accepted begins number e numbered = absurd (none-some number e)
  explored_accepted (restores c x) number e numbered = absurd (none-some number e)
  explored_accepted (enters {told = told} {q = q} {g0 = g0} {g = g} x way v) number e numbered =
      accepted s at q start g0 g number (subst (λ t. IsVisited s at q start t g0 g) e v) numbered

  module _ (limit : Option ℕ) (le : IsUpTo at limit) (best o : Option Trace) (below : List (Trace × Pair)) where
    -- what is under way in a closure
    abbrev Under : Closure → Type 0
    Under c = CarriesTo limit s at c.threads.items c.entered.items (waits start at c.frames c.slots ++ below) best o

    explored_carries : {from c : Closure} {told : Option ℕ} → Explores s at start from told c →
        MatchOption told (Under c) (λ p. CarriesTo limit s at c.threads.items c.entered.items [] (Some (done p start at c.slots)) o) → Under from
    explored_carries begins x = x
    explored_carries (restores c e) x = explored_carries e x
    explored_carries (enters {told = told} {q = q} {g0 = g0} {g = g} e way v) x =
        explored_carries e
        (carries_in s at limit le g0.threads.items g0.entered.items best o (trace start g0.slots.items)
        (waits start at (reverse g0.stack.items) g0.slots.items ++ below) way
        (visited_carries s at q start g0 g limit le best o below told v x))

    pub closed_carries : {from c : Closure} (told : Option ℕ) → Closes s at start from told c →
        MatchOption told (CarriesTo limit s at c.threads.items c.entered.items below best o)
        (λ p. CarriesTo limit s at c.threads.items c.entered.items [] (Some (done p start at c.slots)) o) → Under from
    closed_carries {c = c} None k x =
        explored_carries k.explores
        (subst (λ f. CarriesTo limit s at c.threads.items c.entered.items (waits start at f c.slots ++ below) best o) (sym (k.empty refl)) x)
    closed_carries (Some p) k x = explored_carries k.explores x

  module _ (all below : List (Trace × Pair)) (best0 : Option Ending) (found0 : List (Option ℕ)) (sought : IsSought best0 start) where
    abbrev Racing : Closure → Option Ending → List (Option ℕ) → Type 0
    Racing c best found = Races s all at c.threads.items c.entered.items (waits start at c.frames c.slots ++ below) best found

    visited_races : (q : ℕ) (g0 g : Growth) (told : Option ℕ) (best : Option Ending) (found : List (Option ℕ)) → IsVisited s at q start told g0 g →
        Records start at told g.slots.items best0 found0 best found →
        Races s all at g0.threads.items g0.entered.items
        ((trace start g0.slots.items, (q, at)) ∷ (waits start at (reverse g0.stack.items) g0.slots.items ++ below)) best0 found0 →
        Races s all at g.threads.items g.entered.items (waits start at (reverse g.stack.items) g.slots.items ++ below) best found
    visited_races q g0 g None best found v r x = rw (r.0, r.1) (quiet_races s at q start g0 g best0 found0 sought all below v x)
    visited_races q g0 g (Some p) best found v r x = ended_races s at q start g0 g best0 found0 sought all below p best found v r x

    pub explored_races : {from c : Closure} {told : Option ℕ} → Explores s at start from told c → (best : Option Ending) (found : List (Option ℕ)) →
        Records start at told c.slots best0 found0 best found → Racing from best0 found0 → Racing c best found
    explored_races begins best found r x = rw (r.0, r.1) x
    explored_races (restores c e) best found r x = explored_races e best found r x
    explored_races (enters {told = told} {q = q} {g0 = g0} {g = g} e way v) best found r x =
        visited_races q g0 g told best found v r
        (raced_way_in s all at g0.threads.items g0.entered.items best0 found0 (trace start g0.slots.items)
        (waits start at (reverse g0.stack.items) g0.slots.items ++ below) way sought (explored_races e best0 found0 (refl, refl) x))

  module _ (below : List Runner) (low : BeginFrom start below) (o : Option Found) where
    abbrev Seeking : Closure → Option Ending → Type 0
    Seeking c best = Seeks s at c.threads.items c.entered.items (runners_of start at c.frames ++ below) best o

    visited_seeks : (q : ℕ) (g0 g : Growth) (told : Option ℕ) (best0 best : Option Ending) → length g0.slots.items ≡ 0 → IsVisited s at q start told g0 g →
        Greatens start at told best0 best →
        Seeks s at g.threads.items g.entered.items (runners_of start at (reverse g.stack.items) ++ below) best o →
        Seeks s at g0.threads.items g0.entered.items ((start, (q, at)) ∷ (runners_of start at (reverse g0.stack.items) ++ below)) best0 o
    visited_seeks q g0 g None best0 best none v is x = quiet_seeks s at q start g0 g best0 o below low v none (rw is at x)
    visited_seeks q g0 g (Some p) best0 best none v r x =
        ended_seeks s at q start g0 g best0 o below low (Matches p) p r.0 (entered_end s at q start g0 g p v) refl r.2 (rw r.1 at x)

    pub explored_seeks : {from c : Closure} {told : Option ℕ} → Explores s at start from told c → from.threads.width ≡ 0 →
        (best0 best : Option Ending) → Greatens start at told best0 best → Seeking c best → Seeking from best0
    explored_seeks begins none best0 best is x = rw is at x
    explored_seeks (restores c e) none best0 best is x = explored_seeks e none best0 best is x
    explored_seeks (enters {told = told} {q = q} {g0 = g0} {g = g} e way v) none best0 best r x =
        explored_seeks e none best0 best0 refl
        (seeks_way_in s at g0.threads.items g0.entered.items best0 o start (runners_of start at (reverse g0.stack.items) ++ below) way
        (visited_seeks q g0 g told best0 best (g0.wide.0 ∙ explored_width e ∙ none) v r x))

  -- the starts rise on
  pub explored_ordered : {from c : Closure} {told : Option ℕ} → Explores s at start from told c → from.threads.width ≡ 0 →
      IsOrdered start from.threads.items → IsOrdered start c.threads.items
  explored_ordered begins none x = x
  explored_ordered (restores c e) none x = explored_ordered e none x
  explored_ordered (enters {told = told} {q = q} {g0 = g0} {g = g} e way v) none x =
      visited_ordered s at q start g0 g told v (g0.wide.0 ∙ explored_width e ∙ none) (explored_ordered e none x)

  module _ (below : List Pair) (p : ℕ) where
    abbrev Owing : Closure → List Bool → Type 0
    Owing c set = Owed s at c.threads.items c.entered.items (explored at c.frames ++ below) set p

    visited_owed : (q : ℕ) (g0 g : Growth) (told : Option ℕ) (set0 set : List Bool) → length g0.slots.items ≡ 0 → p < length set0 →
        IsVisited s at q start told g0 g → Marks told set0 set →
        Owed s at g0.threads.items g0.entered.items ((q, at) ∷ (explored at (reverse g0.stack.items) ++ below)) set0 p
        ↔ Owed s at g.threads.items g.entered.items (explored at (reverse g.stack.items) ++ below) set p
    visited_owed q g0 g None set0 set none low v is = rw is (quiet_owed s at q start g0 g below set0 p v none)
    visited_owed q g0 g (Some k) set0 set none low v is = rw is (ended_owed s at q start g0 g below set0 p k v low)

    pub explored_owed : {from c : Closure} {told : Option ℕ} → Explores s at start from told c → from.threads.width ≡ 0 →
        (set0 set : List Bool) → p < length set0 → Marks told set0 set → Owing from set0 ↔ Owing c set
    explored_owed begins none set0 set low is = rw is (λ x. x, λ x. x)
    explored_owed (restores c e) none set0 set low is = explored_owed e none set0 set low is
    explored_owed (enters {told = told} {q = q} {g0 = g0} {g = g} e way v) none set0 set low is =
        same_then (explored_owed e none set0 set0 low refl)
        (same_then
        (owed_way_in s p at set0 g0.threads.items g0.entered.items (explored at (reverse g0.stack.items) ++ below) way)
        (visited_owed q g0 g told set0 set (g0.wide.0 ∙ explored_width e ∙ none) low v is))

-- a walk that is recorded began no later than the best one, and was counted
pub recorded_sought : (best0 : Option Ending) (found0 : List (Option ℕ)) (new : Ending) (slots : List (Option ℕ)) (best : Option Ending)
    (found : List (Option ℕ)) → IsRecorded best0 found0 new slots best found → IsSought best0 new.start → IsSought best new.start
recorded_sought best0 found0 new slots best found r sought =
    ⊎_elim (λ a. subst (λ b. IsSought b new.start) (sym a.1) sought)
    (λ b. subst (λ b. IsSought b new.start) (sym b.1) (let e : new.start ≤ new.start = omega arith in e)) r

pub recorded_counted : (best0 : Option Ending) (found0 : List (Option ℕ)) (new : Ending) (slots : List (Option ℕ)) (best : Option Ending)
    (found : List (Option ℕ)) → IsRecorded best0 found0 new slots best found → StaysCounted new.start new.end best0 best
recorded_counted best0 found0 new slots best found r k h x =
    ⊎_elim (λ a. subst (IsCounted k) (sym a.1) x)
    (λ b. subst (IsCounted k) (sym b.1) (let e : new.end + 1 ≤ k + new.start = omega (arith, h) in e)) r
