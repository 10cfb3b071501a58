-- What a thread carries once it has entered a place.
use Rattle.std.proofs.Common.{◌≡◌, ◌≢◌, ℕ, List, [], ◌∷◌, ◌++◌, length, reverse, MatchOption, Option, Some, None, ⊎_elim, ap, subst, sym, ◌∙◌, refl, arith}
use Rattle.std.proofs.lemmas.List.{append-nil}
use Rattle.std.proofs.lemmas.Option.{none-some, same_Some}
use Rattle.rc_text.specs.Found.{Found}
use Rattle.rc_walks.specs.Walks.{Pair}
use Rattle.rc_pikevm.specs.Sights.{Sight, IsUpTo}
use Rattle.rc_pikevm.specs.Entered.{IsSkipped, IsEntered, IsVisited}
use Rattle.rc_pikevm.specs.Moves.{IsMove, ended_by}
use Rattle.rc_pikevm.specs.Threads.{ThreadList}
use Rattle.rc_pikevm.specs.Trace.{Trace, trace, done}
use Rattle.rc_pikevm.specs.Passing.{CarriesTo, waits, resting_of, slots_after}
use Rattle.rc_pikevm.specs.Spread.{Runner, Seeks, BeginFrom, IsGreater, IsOrdered, runners_of}
use Rattle.rc_pikevm.specs.declared.growth.Growth.{Growth}
use Rattle.rc_pikevm.specs.declared.moves.Move.{Move}
use Rattle.rc_pikevm.specs.declared.moves.Move.TheVariants.{Fork, Save, Matches, Stays, Reads, DeadEnd}
use Rattle.rc_pikevm.specs.declared.pass.Ending.{Ending}
use Rattle.rc_pikevm.proofs.MoveLemmas.{skipped, matched}
use Rattle.rc_pikevm.proofs.GrownLemmas.{acts_on}
use Rattle.rc_pikevm.proofs.LeftOutLemmas.{gone_on, seeks_on}
use Rattle.rc_pikevm.proofs.SpreadMoveLemmas.{begin_more, passed_over, ended_here, ordered_by}

pub no_slots : (slots : List (Option ℕ)) → length slots ≡ 0 → slots ≡ []
no_slots [] e = refl
no_slots (k ∷ slots) e = absurd (omega arith)

unended : (move : Move) → None ≡ ended_by move → (q : ℕ) → move ≢ Matches q
unended move e q is = none-some q (subst (λ m. None ≡ ended_by m) is e)

ended_move : (move : Move) (q : ℕ) → Some q ≡ ended_by move → move ≡ Matches q
ended_move (Fork a b) q e = absurd (none-some q (sym e))
ended_move (Save k m) q e = absurd (none-some q (sym e))
ended_move (Matches r) q e = ap Matches (sym (same_Some q r e))
ended_move (Stays m) q e = absurd (none-some q (sym e))
ended_move (Reads m to) q e = absurd (none-some q (sym e))
ended_move DeadEnd q e = absurd (none-some q (sym e))

module _ (s : Sight) (at p start : ℕ) (g0 g : Growth) where
  -- no walk ends: the place was entered before, or its move is another one
  pub quiet : {C : Type 0} → IsVisited s at p start None g0 g → (IsSkipped p g0 g → C) →
      ((move : Move) → IsEntered s at p start move g0 g → ((q : ℕ) → move ≢ Matches q) → C) → C
  quiet v skips enters = ⊎_elim (λ a. skips a.0) (λ b. enters b.0 b.1 (unended b.0 b.2)) v

  -- a walk ends
  pub entered_end : (q : ℕ) → IsVisited s at p start (Some q) g0 g → IsEntered s at p start (Matches q) g0 g
  entered_end q v =
      ⊎_elim (λ a. absurd (none-some q (sym a.1))) (λ b. subst (λ m. IsEntered s at p start m g0 g) (ended_move b.0 q b.2) b.1) v

  -- where a walk ends, the place has that move
  pub end_there : (q : ℕ) → IsEntered s at p start (Matches q) g0 g → IsMove s (p, at) (Matches q)
  end_there q m = acts_on s (p, at) (Matches q) tt m.goes

  -- where a walk ends, no thread is put behind the others
  pub same_threads : (move : Move) (q : ℕ) → move ≡ Matches q → IsEntered s at p start move g0 g → g.threads.items ≡ g0.threads.items
  same_threads move q is m =
      ap (λ (l : ThreadList). l.items) m.threads ∙ ap (λ (v : Move). g0.threads.items ++ resting_of start g0.slots.items v) is ∙ append-nil g0.threads.items

  module _ (limit : Option ℕ) (le : IsUpTo at limit) (best o : Option Trace) (below : List (Trace × Pair)) where
    -- the place was entered before
    skipped_carries : IsSkipped p g0 g → CarriesTo limit s at g.threads.items g.entered.items (waits start at (reverse g.stack.items) g.slots.items ++ below) best o →
        CarriesTo limit s at g0.threads.items g0.entered.items
        ((trace start g0.slots.items, (p, at)) ∷ (waits start at (reverse g0.stack.items) g0.slots.items ++ below)) best o
    skipped_carries m x =
        skipped limit s at g0.threads.items g0.entered.items best o p (trace start g0.slots.items)
        (waits start at (reverse g0.stack.items) g0.slots.items ++ below) m.before (rw (m.threads, m.entered, m.frames, m.slots) at x)

    -- it is entered, and a walk ends there or goes on
    entered_carries : (move : Move) (r : Option ℕ) → IsEntered s at p start move g0 g →
        MatchOption r ((q : ℕ) → move ≢ Matches q) (λ q. move ≡ Matches q) →
        MatchOption r (CarriesTo limit s at g.threads.items g.entered.items (waits start at (reverse g.stack.items) g.slots.items ++ below) best o)
        (λ q. CarriesTo limit s at g.threads.items g.entered.items [] (Some (done q start at g.slots.items)) o) →
        CarriesTo limit s at g0.threads.items g0.entered.items
        ((trace start g0.slots.items, (p, at)) ∷ (waits start at (reverse g0.stack.items) g0.slots.items ++ below)) best o
    entered_carries move None m other x =
        gone_on s at g0.threads.items g0.entered.items limit le best o p start g0.slots.items m.fresh move (reverse g0.stack.items) below m.goes other
        (rw (m.threads, m.entered, m.frames, m.slots) at x)
    entered_carries move (Some q) m is x =
        let i = end_there q (subst (λ v. IsEntered s at p start v g0 g) is m) in
        let slots : g.slots.items ≡ g0.slots.items = m.slots ∙ ap (slots_after at g0.slots.items) is in
        matched limit s at g0.threads.items g0.entered.items best o le p q start g0.slots.items g.entered.items
        (waits start at (reverse g0.stack.items) g0.slots.items ++ below) m.fresh i.0 i.1
        (subst (λ ts. CarriesTo limit s at ts g.entered.items [] (Some (done q start at g0.slots.items)) o) (same_threads move q is m)
        (subst (λ l. CarriesTo limit s at g.threads.items g.entered.items [] (Some (done q start at l)) o) slots x))

    pub visited_carries : (r : Option ℕ) → IsVisited s at p start r g0 g →
        MatchOption r (CarriesTo limit s at g.threads.items g.entered.items (waits start at (reverse g.stack.items) g.slots.items ++ below) best o)
        (λ q. CarriesTo limit s at g.threads.items g.entered.items [] (Some (done q start at g.slots.items)) o) →
        CarriesTo limit s at g0.threads.items g0.entered.items
        ((trace start g0.slots.items, (p, at)) ∷ (waits start at (reverse g0.stack.items) g0.slots.items ++ below)) best o
    visited_carries None v x = quiet v (λ m. skipped_carries m x) (λ move m other. entered_carries move None m other x)
    visited_carries (Some q) v x = entered_carries (Matches q) (Some q) (entered_end q v) refl x

  module _ (best : Option Ending) (o : Option Found) (below : List Runner) (low : BeginFrom start below) where
    skipped_seeks : IsSkipped p g0 g → Seeks s at g.threads.items g.entered.items (runners_of start at (reverse g.stack.items) ++ below) best o →
        Seeks s at g0.threads.items g0.entered.items ((start, (p, at)) ∷ (runners_of start at (reverse g0.stack.items) ++ below)) best o
    skipped_seeks m x =
        passed_over s at g0.threads.items g0.entered.items best o p start (runners_of start at (reverse g0.stack.items) ++ below) m.before
        (rw (m.threads, m.entered, m.frames) at x)

    moved_seeks : (move : Move) → IsEntered s at p start move g0 g → length g0.slots.items ≡ 0 → ((q : ℕ) → move ≢ Matches q) →
        Seeks s at g.threads.items g.entered.items (runners_of start at (reverse g.stack.items) ++ below) best o →
        Seeks s at g0.threads.items g0.entered.items ((start, (p, at)) ∷ (runners_of start at (reverse g0.stack.items) ++ below)) best o
    moved_seeks move m none other x =
        seeks_on s at g0.threads.items g0.entered.items best o p start m.fresh move (reverse g0.stack.items) below m.goes other low
        (rw (m.threads, m.entered, m.frames, no_slots g0.slots.items none) at x)

    pub ended_seeks : (move : Move) (q : ℕ) (result : Ending) → IsEntered s at p start move g0 g → move ≡ Matches q →
        IsGreater best (record { pattern = q; start = start; end = at }) result →
        Seeks s at g.threads.items g.entered.items (runners_of start at (reverse g.stack.items) ++ below) (Some result) o →
        Seeks s at g0.threads.items g0.entered.items ((start, (p, at)) ∷ (runners_of start at (reverse g0.stack.items) ++ below)) best o
    ended_seeks move q result m is greater x =
        let i = end_there q (subst (λ v. IsEntered s at p start v g0 g) is m) in
        let frames : reverse g.stack.items ≡ reverse g0.stack.items = rw is at m.frames in
        ended_here s at g0.threads.items g0.entered.items best o p start m.fresh (record { pattern = q; start = start; end = at }) result
        (runners_of start at (reverse g0.stack.items) ++ below) i.1 i.0 refl refl greater (begin_more start at (reverse g0.stack.items) below low)
        (rw (same_threads move q is m, m.entered, frames) at x)

    pub quiet_seeks : IsVisited s at p start None g0 g → length g0.slots.items ≡ 0 →
        Seeks s at g.threads.items g.entered.items (runners_of start at (reverse g.stack.items) ++ below) best o →
        Seeks s at g0.threads.items g0.entered.items ((start, (p, at)) ∷ (runners_of start at (reverse g0.stack.items) ++ below)) best o
    quiet_seeks v none x = quiet v (λ m. skipped_seeks m x) (λ move m other. moved_seeks move m none other x)

-- the starts rise on
entered_ordered : (s : Sight) (at p start : ℕ) (g0 g : Growth) (move : Move) → IsEntered s at p start move g0 g → length g0.slots.items ≡ 0 →
    IsOrdered start g0.threads.items → IsOrdered start g.threads.items
entered_ordered s at p start g0 g move m none ordered =
    subst (λ (l : ThreadList). IsOrdered start l.items) (sym m.threads) (rw (no_slots g0.slots.items none) (ordered_by start g0.threads.items move ordered))

pub visited_ordered : (s : Sight) (at p start : ℕ) (g0 g : Growth) (r : Option ℕ) → IsVisited s at p start r g0 g → length g0.slots.items ≡ 0 →
    IsOrdered start g0.threads.items → IsOrdered start g.threads.items
visited_ordered s at p start g0 g r v none ordered =
    ⊎_elim (λ a. subst (λ (l : ThreadList). IsOrdered start l.items) (sym a.0.threads) ordered)
    (λ b. entered_ordered s at p start g0 g b.0 b.1 none ordered) v
