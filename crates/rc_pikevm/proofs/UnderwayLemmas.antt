-- A pass by a rule: what holds of one for the first walk and of one for the longest alike.
use Rattle.std.proofs.Common.{◌≡◌, ℕ, suc, ◌+◌, ◌-◌, ◌*◌, ◌<◌, ◌≤◌, ◌⊎◌, [], ◌∷◌, ◌++◌, List, map, min, Option, Some, None, IsTrue, Bool, length, false, true, true≢false, is_none, is_some, refl, sym, subst, ap, ⊎_elim, arith}
use Rattle.std.proofs.Math.Nat.{mul-le-mul_left}
use Rattle.rc_text.specs.Text.{Searched}
use Rattle.rc_walks.specs.Walks.{Pair}
use Rattle.rc_pikevm.specs.Moves.{seen_by}
use Rattle.rc_pikevm.specs.Near.{size}
use Rattle.rc_pikevm.specs.Sights.{Sight, HasNoWalkFrom}
use Rattle.rc_pikevm.specs.Threads.{Thread, ThreadList, thread_of}
use Rattle.rc_pikevm.specs.Trace.{Trace, trace}
use Rattle.rc_pikevm.specs.Passing.{Carries, IsCounted, Pending, best_of, pending, waiting_starts}
use Rattle.rc_pikevm.specs.Races.{IsCutOff, Races, starts_to}
use Rattle.rc_pikevm.specs.Roots.{StandsFor}
use Rattle.rc_pikevm.specs.Rules.{GivesBy, MayEnter, TellsBy, Turns, root_of}
use Rattle.rc_pikevm.specs.Underway.{HasCome, IsInLine, Owes}
use Rattle.rc_pikevm.specs.declared.pass.Ending.{Ending}
use Rattle.rc_pikevm.specs.declared.rule.Rule.{Rule}
use Rattle.rc_pikevm.specs.declared.rule.Rule.TheVariants.{First, Longest}
use Rattle.rc_pikevm.specs.declared.scratch.Scratch.{Scratch}
use Rattle.rc_pikevm.specs.declared.spot.Course.{Course}
use Rattle.rc_pikevm.specs.declared.threads.BareThread.{BareThread}
use Rattle.rc_pikevm.specs.Readers.{reader_count}
use Rattle.rc_pikevm.proofs.AloneLemmas.{counted_more, few_moved, lined_moved, none_is}
use Rattle.rc_pikevm.proofs.LineLemmas.{no_line}
use Rattle.rc_pikevm.proofs.PassingLemmas.{GoesOn, begins_to, done_to, no_threads, none_in, skips_carries}
use Rattle.rc_pikevm.proofs.RacePassLemmas.{cut_starts, runs_begin, runs_done, runs_skip, starts_past}
use Rattle.rc_pikevm.proofs.EarlyLemmas.{early_tells, whole_tells}
use Rattle.rc_pikevm.proofs.RootLemmas.{stands_itself}
use Rattle.rc_pikevm.proofs.StartLemmas.{waiting_over}

-- the place at which walks enter stands for place 0
pub enters_there : (rule : Rule) (n : ℕ) (s : Sight) → 0 < n → MayEnter n (StandsFor s) rule → (root_of rule < n) × StandsFor s (root_of rule)
enters_there (First root) n s rooted enters = enters
enters_there Longest n s rooted enters = (rooted, stands_itself s)

cut_found : (best : Option Ending) (at : ℕ) → IsCutOff best at → is_none best ≡ false
cut_found None at cut = absurd cut
cut_found (Some r) at cut = refl

-- what a whole pass gives tells whether some start has a walk
pub tells_by : (rule : Rule) (s : Sight) (width from last : ℕ) (best : Option Ending) (found : List (Option ℕ)) →
    GivesBy rule s width from last (best_of best found) → TellsBy rule s from last best
tells_by (First root) s width from last best found gives = whole_tells s width from last best found gives
tells_by Longest s width from last best found gives = tt

-- rows of as many slots
pub widened : {rule : Rule} {course : Course} {text : Searched} {width width2 from at : ℕ} {scratch : Scratch} {best : Option Ending} → width ≡ width2 →
    HasCome rule course text width from at scratch best → HasCome rule course text width2 from at scratch best
widened {rule = rule} {course = course} {text = text} {from = from} {at = at} {scratch = scratch} {best = best} e u =
    subst (λ w. HasCome rule course text w from at scratch best) e u

module _ {rule : Rule} {course : Course} {text : Searched} {width from : ℕ} where
  -- the pass begins
  pub begins_by : {scratch : Scratch} → scratch.insertions ≡ 0 → scratch.curr.items ≡ [] → scratch.curr.width ≡ width →
      reader_count (seen_by course text).places < scratch.curr.room → from ≤ course.last → HasCome rule course text width from from scratch None
  begins_by {scratch = scratch} uncounted none wide room low = record {
    law = law rule;
    lined = no_line (seen_by course text) (size course) course.hi width scratch.insertions scratch.curr wide room from none;
    ended = tt;
    few = omega (arith, uncounted);
    reached = omega arith;
    within = omega (arith, low, course.ordered);
  }
    where
      law : (rule : Rule) → Owes rule course text width from from scratch None
      law (First root) = λ o x. begins_to (seen_by course text) width from course.last None scratch.curr.items scratch.found.items none low o x
      law Longest = runs_begin (seen_by course text) width from course.last scratch.curr.items scratch.found.items none

  -- all threads go on
  pub turns_by : {at : ℕ} {scratch scratch2 : Scratch} {best best2 : Option Ending} → HasCome rule course text width from at scratch best →
      at ≤ course.hi →
      Turns rule (seen_by course text) width course.last at scratch.curr scratch2.curr best best2 scratch.found.items scratch2.found.items →
      IsInLine course text width (at + 1) scratch2 → IsCounted scratch2.insertions best2 → scratch2.insertions ≤ scratch.insertions + size course →
      HasCome rule course text width from (at + 1) scratch2 best2
  turns_by {at = at} {scratch = scratch} {scratch2 = scratch2} {best = best} {best2 = best2} u within turns lined ended few = record {
    law = law rule u.law turns;
    lined = lined;
    ended = ended;
    few =
        let e : at + 1 - from ≡ suc (at - from) = omega (arith, u.reached) in
        let m : size course * suc (at - from) ≡ size course * (at - from) + size course = omega arith in
        rw e (omega (arith, m, few, u.few));
    reached = omega (arith, u.reached);
    within = omega (arith, within);
  }
    where
      law : (rule : Rule) → Owes rule course text width from at scratch best →
          Turns rule (seen_by course text) width course.last at scratch.curr scratch2.curr best best2 scratch.found.items scratch2.found.items →
          Owes rule course text width from (at + 1) scratch2 best2
      law (First root) owes turn = λ o x. owes o (turn o x)
      law Longest owes turn = turn (starts_to width from course.last) owes

  -- the only thread goes on alone
  pub moves_by : {at : ℕ} {scratch scratch2 : Scratch} {best : Option Ending} (t : Thread) (r : BareThread) (is_open : Bool) →
      HasCome rule course text width from at scratch best → scratch.curr.items ≡ t ∷ [] →
      scratch2.curr ≡ record scratch.curr { items = thread_of r t.slots ∷ [] } → scratch2.found.items ≡ scratch.found.items →
      scratch2.insertions ≡ scratch.insertions + (r.at - at) → t.at ≡ at → r.start ≡ t.start → r.place < size course → at ≤ r.at → r.at ≤ course.hi →
      is_open ≡ is_none best →
      ((slots : List (Option ℕ)) (width : ℕ) (best o : Option Trace) →
      Carries (seen_by course text) r.at [] [] ((trace r.start slots, (r.place, r.at)) ∷ waiting_starts is_open width r.at course.last) best o →
      Carries (seen_by course text) t.at [] [] ((trace t.start slots, (t.place, t.at)) ∷ waiting_starts is_open width t.at course.last) best o) →
      ((all : List (Trace × Pair)) →
      Races (seen_by course text) all t.at [] [] ((trace t.start t.slots, (t.place, t.at)) ∷ starts_to width t.at course.last) best scratch.found.items →
      Races (seen_by course text) all r.at [] [] ((trace r.start t.slots, (r.place, r.at)) ∷ starts_to width r.at course.last) best
      scratch.found.items) →
      HasCome rule course text width from r.at scratch2 best
  moves_by {at = at} {scratch = scratch} {scratch2 = scratch2} {best = best} t r is_open u one moved same count here start place later within open_is run race = record {
    law = law rule u.law;
    lined = lined_moved s (size course) course.hi width at scratch.insertions scratch2.insertions scratch.curr scratch2.curr t r one moved later count u.lined
        start place within;
    ended = counted_more scratch.insertions scratch2.insertions best (omega (arith, count)) u.ended;
    few = few_moved s (size course) course.hi width at scratch.insertions scratch2.insertions scratch.curr scratch2.curr t r one moved later count from u.few
        u.reached place;
    reached = omega (arith, later, u.reached);
    within = omega (arith, within);
  }
    where
      s : Sight
      s = seen_by course text

      law : (rule : Rule) → Owes rule course text width from at scratch best → Owes rule course text width from r.at scratch2 best
      law (First root) owes = λ o x. owes o
          (subst (λ ts. Pending s width course.last at ts best scratch.found.items o) (sym one)
          (subst (λ y. Carries s y [] [] ((trace t.start t.slots, (t.place, t.at)) ∷ waiting_starts (is_none best) width y course.last)
          (best_of best scratch.found.items) o) here
          (subst (λ b. Carries s t.at [] [] ((trace t.start t.slots, (t.place, t.at)) ∷ waiting_starts b width t.at course.last)
          (best_of best scratch.found.items) o) open_is
          (run t.slots width (best_of best scratch.found.items) o
          (subst (λ b. Carries s r.at [] [] ((trace r.start t.slots, (r.place, r.at)) ∷ waiting_starts b width r.at course.last)
          (best_of best scratch.found.items) o) (sym open_is)
          (subst (λ (l : ThreadList). Pending s width course.last r.at l.items best scratch.found.items o) moved
          (subst (λ f. Pending s width course.last r.at scratch2.curr.items best f o) same x)))))))
      law Longest owes =
          subst (λ f. Races s (starts_to width from course.last) r.at [] [] (map pending scratch2.curr.items ++ starts_to width r.at course.last) best f)
          (sym same)
          (subst (λ (l : ThreadList). Races s (starts_to width from course.last) r.at [] [] (map pending l.items ++ starts_to width r.at course.last) best
          scratch.found.items) (sym moved)
          (race (starts_to width from course.last)
          (subst (λ y. Races s (starts_to width from course.last) y [] [] ((trace t.start t.slots, (t.place, t.at)) ∷ starts_to width y course.last) best
          scratch.found.items) (sym here)
          (subst (λ ts. Races s (starts_to width from course.last) at [] [] (map pending ts ++ starts_to width at course.last) best scratch.found.items) one
          owes))))

  -- an idle pass goes on at a later position, where no start between has a walk
  pub skips_by : {at x : ℕ} {scratch : Scratch} {best : Option Ending} → HasCome rule course text width from at scratch best →
      length scratch.curr.items ≡ 0 → is_none best ≡ true → at ≤ x → x ≤ course.hi + 1 →
      ((y : ℕ) → at ≤ y → y < x → HasNoWalkFrom (seen_by course text) y) → HasCome rule course text width from x scratch best
  skips_by {at = at} {x = x} {scratch = scratch} {best = best} u none unmatched low high no_walk = record {
    law = law rule best unmatched u.law;
    lined = no_line s (size course) course.hi width scratch.insertions scratch.curr u.lined.width_is u.lined.room x (no_threads scratch.curr.items none);
    ended = u.ended;
    few =
        let m : size course * (at - from) ≤ size course * (x - from) = mul-le-mul_left (size course) (omega (arith, low)) in
        omega (arith, m, u.few);
    reached = omega (arith, low, u.reached);
    within = high;
  }
    where
      s : Sight
      s = seen_by course text

      law : (rule : Rule) (best : Option Ending) → is_none best ≡ true → Owes rule course text width from at scratch best →
          Owes rule course text width from x scratch best
      law (First root) best e owes = λ o y. owes o (skips_carries s width from course.last at x scratch.curr best scratch.found.items o none e low no_walk y)
      law Longest None e owes = runs_skip s width from course.last at x scratch.curr.items scratch.found.items owes none low no_walk
      law Longest (Some r) e owes = absurd (true≢false (sym e))

  -- it goes on at a later position
  pub goes_on_by : {at x : ℕ} (idle : Bool) {scratch : Scratch} {best : Option Ending} → HasCome rule course text width from at scratch best →
      (IsTrue idle → (length scratch.curr.items ≡ 0) × (is_none best ≡ true)) → GoesOn (seen_by course text) course.hi idle at x →
      HasCome rule course text width from x scratch best
  goes_on_by {x = x} idle {scratch = scratch} {best = best} u alone on =
      ⊎_elim (λ e. subst (λ z. HasCome rule course text width from z scratch best) (sym e) u)
      (λ skips. skips_by u (alone skips.0).0 (alone skips.0).1 on.0 (omega (arith, on.1)) skips.1) on.2

  -- no thread is left, and no start is sought
  pub spent_by : {at : ℕ} {scratch : Scratch} {best : Option Ending} → HasCome rule course text width from at scratch best →
      length scratch.curr.items ≡ 0 → IsCutOff best at → from ≤ course.last →
      GivesBy rule (seen_by course text) width from course.last (best_of best scratch.found.items)
  spent_by {at = at} {scratch = scratch} {best = best} u none cut low = law rule u.law
    where
      law : (rule : Rule) → Owes rule course text width from at scratch best →
          GivesBy rule (seen_by course text) width from course.last (best_of best scratch.found.items)
      law (First root) owes =
          done_to (seen_by course text) width from course.last None at scratch.curr.items best scratch.found.items owes none
          (ap (λ b. waiting_starts b width at course.last) (cut_found best at cut))
      law Longest owes =
          runs_done (seen_by course text) width from course.last at scratch.curr.items best scratch.found.items owes none
          (cut_starts best width at course.last cut) low

  -- no thread is left, and all starts were tried
  past_by : {at : ℕ} {scratch : Scratch} {best : Option Ending} → HasCome rule course text width from at scratch best →
      length scratch.curr.items ≡ 0 → course.last < at → from ≤ course.last →
      GivesBy rule (seen_by course text) width from course.last (best_of best scratch.found.items)
  past_by {at = at} {scratch = scratch} {best = best} u none past low = law rule u.law
    where
      law : (rule : Rule) → Owes rule course text width from at scratch best →
          GivesBy rule (seen_by course text) width from course.last (best_of best scratch.found.items)
      law (First root) owes =
          done_to (seen_by course text) width from course.last None at scratch.curr.items best scratch.found.items owes none
          (waiting_over (is_none best) width at course.last past)
      law Longest owes =
          runs_done (seen_by course text) width from course.last at scratch.curr.items best scratch.found.items owes none
          (starts_past (seen_by course text) width from course.last best at past) low

  -- no thread is left, and no start
  pub stops_by : {at : ℕ} {scratch : Scratch} {best : Option Ending} → HasCome rule course text width from (at + 1) scratch best →
      length scratch.curr.items ≡ 0 → (course.last ≤ at) ⊎ IsCutOff best (at + 1) → from ≤ course.last →
      GivesBy rule (seen_by course text) width from course.last (best_of best scratch.found.items)
  stops_by u none no_start low = ⊎_elim (λ l. past_by u none (omega (arith, l)) low) (λ cut. spent_by u none cut low) no_start

  -- all positions are done
  pub ends_by : {at : ℕ} {scratch : Scratch} {best : Option Ending} → HasCome rule course text width from at scratch best → course.hi < at →
      from ≤ course.last → GivesBy rule (seen_by course text) width from course.last (best_of best scratch.found.items)
  ends_by {at = at} {scratch = scratch} u past low =
      past_by u (ap length (none_in (size course) at (min course.hi (at + 3)) scratch.curr.items u.lined.inside (omega (arith, past))))
      (omega (arith, past, course.ordered)) low

  -- the pass is idle, and no start is left that has a walk
  pub gives_up_by : {at : ℕ} {scratch : Scratch} {best : Option Ending} → HasCome rule course text width from at scratch best →
      length scratch.curr.items ≡ 0 → is_none best ≡ true → at ≤ course.hi → from ≤ course.last →
      ((y : ℕ) → at ≤ y → y ≤ course.hi → HasNoWalkFrom (seen_by course text) y) → GivesBy rule (seen_by course text) width from course.last None
  gives_up_by {scratch = scratch} {best = best} u none unmatched within low no_walk =
      subst (λ b. GivesBy rule (seen_by course text) width from course.last (best_of b scratch.found.items)) (none_is best unmatched)
      (ends_by (skips_by {x = course.hi + 1} u none unmatched (omega (arith, within)) (omega arith) (λ y a b. no_walk y a (omega (arith, b))))
      (omega arith) low)

  -- a pass that has found a walk tells so too
  pub early_by : {at : ℕ} {scratch : Scratch} {best : Option Ending} → HasCome rule course text width from at scratch best →
      course.hi ≡ (seen_by course text).hi → is_some best ≡ true → TellsBy rule (seen_by course text) from course.last best
  early_by {at = at} {scratch = scratch} {best = best} u high some = law rule u.law
    where
      law : (rule : Rule) → Owes rule course text width from at scratch best → TellsBy rule (seen_by course text) from course.last best
      law (First root) owes =
          early_tells (seen_by course text) width from course.last (size course) at (min course.hi (at + 3)) at scratch.curr.items best scratch.found.items
          some (omega (arith, high)) u.lined.inside owes
      law Longest owes = tt
