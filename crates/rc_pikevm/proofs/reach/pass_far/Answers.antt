use Rattle.std.proofs.Common.{ℕ, ◌+◌, ◌-◌, ◌<◌, ◌≤◌, [], length, min, inl, inr, refl, sym, ap, subst, ◌∙◌, ⊎_elim, arith, Option, Some, None, MatchOption, is_none, true≢false}
use Rattle.std.specs.Bool.{⊤}
use Rattle.std.proofs.lemmas.Bool.{cases_lt}
use Rattle.std.proofs.lemmas.List.{length-map}
use Rattle.rc_program.specs.Places.{place_of}
use Rattle.rc_pikevm.specs.Threads.{ThreadList}
use Rattle.rc_pikevm.specs.Moves.{seen_by}
use Rattle.rc_pikevm.specs.Near.{seen_from, size}
use Rattle.rc_pikevm.specs.Sights.{Sight, IsUpTo}
use Rattle.rc_pikevm.specs.Trace.{Trace}
use Rattle.rc_pikevm.specs.Passing.{CarriesTo, GivesTraceTo, IsLined, PendingTo, best_of, waiting_starts}
use Rattle.rc_pikevm.specs.Underway.{HasCome, IsInLine}
use Rattle.rc_pikevm.specs.declared.pass.Ending.{Ending}
use Rattle.rc_pikevm.specs.declared.rule.Rule.TheVariants.{First}
use Rattle.rc_pikevm.proofs.KeptLemmas.{kept_back, kept_then, kept_window, kept_begun, kept_around, begun_later}
use Rattle.rc_pikevm.proofs.PassingLemmas.{begins_to, counts_fit, done_to, none_in}
use Rattle.rc_pikevm.proofs.ReachLemmas.{up_to_less}
use Rattle.rc_pikevm.proofs.RootLemmas.{stands_itself}
use Rattle.rc_pikevm.proofs.SharpLemmas.{first_waits, still_on}
use Rattle.rc_pikevm.proofs.StartLemmas.{waiting_over}
use Rattle.rc_pikevm.proofs.UnderwayLemmas.{begins_by, turns_by}
use Rattle.rc_pikevm.proofs.reach.pass_far.Given.{Over}
use Rattle.rc_pikevm.proofs.reach.pass_far.Goals as goal
use Rattle.rc_pikevm.proofs.reach.pass_far.Goals.{After-turn-best}

pub positions-init : goal.positions-init
positions-init g c =
    let s : Sight = seen_by c.args.course g.text in
    let no_items = ap (λ (l : ThreadList). l.items) c.clear.ensures in
    record {
      keeps = kept_then c.requires.1.0 c.open-window.ensures.keeps;
      window = kept_window (kept_back c.requires.1.0) c.open-window.ensures.window;
      begun = kept_begun (kept_back c.requires.1.0) c.open-window.ensures.begun;
      come = begins_by refl no_items
          (let w = ap (λ (l : ThreadList). l.width) c.clear.ensures in
          omega (arith, w, c.len.ensures, c.args.scratch.now.next.wide.0, c.args.scratch.now.next.slots.ok.0))
          (let r = ap (λ (l : ThreadList). l.room) c.clear.ensures in omega (arith, r, c.args.scratch.now.alike.0, c.requires.1.1.1.1.room))
          c.requires.1.1.1.0.1;
      carries = λ limit up o x. begins_to s c.args.scratch.now.next.threads.width c.args.from c.args.course.last limit c.clear.new.self.items
          c.args.scratch.now.found.items no_items c.requires.1.1.1.0.1 o x;
      ended = λ x le. tt;
      live = inr (refl, c.requires.1.1.1.0.1);
      same = record { capacity = refl; room = refl; most = refl; width = refl };
    }

pub reach-requires-clause-inside : goal.reach-requires-clause-inside
reach-requires-clause-inside g c =
    let inv = c.positions.invariant in
    rw (inv.keeps.slice, inv.keeps.content)
    (omega (arith, c.requires.1.1.1.0, inv.come.reached), omega (arith, c.requires.1.1.0.bound, c.positions-test.true))

pub reach-requires-clause-begun : goal.reach-requires-clause-begun
reach-requires-clause-begun g c =
    let inv = c.positions.invariant in kept_begun inv.keeps inv.begun

pub spot_at-requires : goal.spot_at-requires
spot_at-requires g c =
    let back = kept_back c.positions.invariant.keeps in
    let r = c.reach.ensures in (
      c.requires.1.1.0,
      (
        kept_window back r.window,
        (
          kept_begun back r.begun,
          (kept_around back r.around, c.positions-test.true),
        ),
      ),
    )

pub turn-best-requires : goal.turn-best-requires
turn-best-requires g c =
    let at : ℕ = c.positions.at in
    let n : ℕ = size c.args.course in
    let inv = c.positions.invariant in
    let rooted = subst (λ n. 0 < n) (length-map c.args.course.program.now.places.items place_of) c.args.course.program.now.runnable.rooted in (
      c.spot_at.ensures.here,
      (
        inv.same.capacity ∙ c.requires.1.1.1.1.capacity ∙ sym (ap size c.spot_at.ensures.course),
        (
          rw (c.spot_at.ensures.course, c.spot_at.ensures.at)
              (subst (λ w. IsLined (seen_by c.args.course g.text) n c.args.course.hi w at c.positions.scratch.insertions c.positions.scratch.curr) (sym inv.same.width) inv.come.lined),
          (
            inv.come.ended,
            (
              rw c.spot_at.ensures.course (counts_fit n (at - c.args.from) c.positions.scratch.insertions
                  (omega (arith, c.args.scratch.now.next.stack.small, c.args.scratch.now.next.fits, c.requires.1.1.1.1.capacity))
                  (omega (arith, c.args.course.small, c.positions-test.true)) inv.come.few),
              (rw c.spot_at.ensures.course rooted, stands_itself (seen_from c.spot_at.result g.text)),
            ),
          ),
        ),
      ),
    )

-- the threads have gone on
abbrev Turned : (g : Over) → After-turn-best g → Type 0
Turned g c =
    HasCome (First 0) c.args.course g.text c.args.scratch.now.next.threads.width c.args.from (c.positions.at + 1) c.turn-best.new.scratch c.turn-best.result

carried : (g : Over) (c : After-turn-best g) (limit : Option ℕ) → IsUpTo c.positions.at limit → (o : Option Trace) →
    PendingTo limit (seen_by c.args.course g.text) c.args.scratch.now.next.threads.width c.args.course.last (c.positions.at + 1) c.turn-best.new.scratch.curr.items
    c.turn-best.result c.turn-best.new.scratch.found.items o →
    PendingTo limit (seen_by c.args.course g.text) c.args.scratch.now.next.threads.width c.args.course.last c.positions.at c.positions.scratch.curr.items
    c.positions.best c.positions.scratch.found.items o
carried g c limit up o x =
    let s : Sight = seen_by c.args.course g.text in
    let at : ℕ = c.positions.at in
    let last : ℕ = c.args.course.last in
    let wide = c.positions.invariant.same.width in
    let turns = rw (c.spot_at.ensures.course, c.spot_at.ensures.at) at c.turn-best.ensures.carries in
    subst (λ w. PendingTo limit s w last at c.positions.scratch.curr.items c.positions.best c.positions.scratch.found.items o) wide
    (turns limit up (inr refl) o
    (subst (λ w. PendingTo limit s w last (at + 1) c.turn-best.new.scratch.curr.items c.turn-best.result c.turn-best.new.scratch.found.items o) (sym wide) x))

turned : (g : Over) (c : After-turn-best g) → Turned g c
turned g c =
    let wide = c.positions.invariant.same.width in
    let lined = rw (c.spot_at.ensures.course, c.spot_at.ensures.at) at c.turn-best.ensures.lined in
    turns_by c.positions.invariant.come c.positions-test.true (λ o x. carried g c None tt o x)
    (subst (λ w. IsInLine c.args.course g.text w (c.positions.at + 1) c.turn-best.new.scratch) wide lined)
    c.turn-best.ensures.counted (rw c.spot_at.ensures.course at c.turn-best.ensures.few)

-- what it has carried from its starts on
given : (g : Over) (c : After-turn-best g) (limit : Option ℕ) → IsUpTo c.positions.at limit → (o : Option Trace) →
    PendingTo limit (seen_by c.args.course g.text) c.args.scratch.now.next.threads.width c.args.course.last (c.positions.at + 1) c.turn-best.new.scratch.curr.items
    c.turn-best.result c.turn-best.new.scratch.found.items o →
    GivesTraceTo limit (seen_by c.args.course g.text) c.args.scratch.now.next.threads.width c.args.from c.args.course.last o
given g c limit up o x =
    c.positions.invariant.carries limit (up_to_less (c.positions.at - 1) c.positions.at limit (omega arith) up) o (carried g c limit up o x)

-- the walk that was found ended at the position or before
ended : (g : Over) (c : After-turn-best g) → MatchOption c.turn-best.result ⊤ (λ (r : Ending). r.end ≤ c.positions.at)
ended g c =
    (rw c.spot_at.ensures.at at c.turn-best.ensures.ends) c.positions.at (omega arith)
    (c.positions.invariant.ended c.positions.at (omega arith))

pub positions-preserved : goal.positions-preserved
positions-preserved g c =
    let inv = c.positions.invariant in
    let after = goal.at.positions-preserved g c in
    let back = kept_back inv.keeps in
    let there = turned g after.After-turn-best in
    record {
      keeps = kept_then inv.keeps c.reach.ensures.keeps;
      window = kept_window back c.reach.ensures.window;
      begun = begun_later (kept_begun back c.reach.ensures.begun);
      come = record { law = there.law; lined = there.lined; ended = there.ended; few = there.few; reached = there.reached; within = there.within };
      carries = λ limit up o x. given g after.After-turn-best limit (up_to_less c.positions.at (c.positions.at + 1 - 1) limit (omega arith) up) o x;
      ended = λ x le. (rw c.spot_at.ensures.at at c.turn-best.ensures.ends) x (omega (arith, le)) (inv.ended x (omega (arith, le)));
      live = c.if-not-goes_on.ensures;
      same = record {
        capacity = c.turn-best.ensures.same.capacity ∙ inv.same.capacity;
        room = c.turn-best.ensures.same.room ∙ inv.same.room;
        most = c.turn-best.ensures.same.most ∙ inv.same.most;
        width = c.turn-best.ensures.same.width ∙ inv.same.width;
      };
    }

pub returns-then-not-goes_on-clause-gives : goal.returns-then-not-goes_on-clause-gives
returns-then-not-goes_on-clause-gives g c limit up =
    let done = c.if-not-goes_on.ensures in
    let width : ℕ = c.args.scratch.now.next.threads.width in
    let last : ℕ = c.args.course.last in
    let at : ℕ = c.positions.at in
    done_to (seen_by c.args.course g.text) width c.args.from last limit (at + 1)
    c.turn-best.new.scratch.curr.items c.turn-best.result c.turn-best.new.scratch.found.items
    (λ o x. given g (goal.at.returns-then-not-goes_on-clause-gives g c).After-turn-best limit up o x) done.0
    (⊎_elim (λ e. ap (λ b. waiting_starts b width (at + 1) last) e) (λ l. waiting_over (is_none c.turn-best.result) width (at + 1) last (omega (arith, l))) done.1)

pub returns-then-not-goes_on-clause-ended : goal.returns-then-not-goes_on-clause-ended
returns-then-not-goes_on-clause-ended g c = ended g (goal.at.returns-then-not-goes_on-clause-ended g c).After-turn-best

pub returns-then-not-goes_on-clause-whole : goal.returns-then-not-goes_on-clause-whole
returns-then-not-goes_on-clause-whole g c none =
    ⊎_elim (λ e. absurd (true≢false (sym none ∙ e))) (λ l. l) c.if-not-goes_on.ensures.1

pub returns-clause-gives : goal.returns-clause-gives
returns-clause-gives g c limit up =
    let inv = c.positions.invariant in
    let width : ℕ = c.args.scratch.now.next.threads.width in
    let last : ℕ = c.args.course.last in
    let at : ℕ = c.positions.at in
    done_to (seen_by c.args.course g.text) width c.args.from last limit at
    c.positions.scratch.curr.items c.positions.best c.positions.scratch.found.items
    (λ o x. inv.carries limit (up_to_less (at - 1) c.args.course.hi limit (omega (arith, inv.come.within)) up) o x)
    (ap length (none_in (size c.args.course) at (min c.args.course.hi (at + 3)) c.positions.scratch.curr.items inv.come.lined.inside
    (omega (arith, c.positions-test.false))))
    (waiting_over (is_none c.positions.best) width at last (omega (arith, c.positions-test.false, c.args.course.ordered)))

pub returns-clause-ended : goal.returns-clause-ended
returns-clause-ended g c = c.positions.invariant.ended c.args.course.hi (omega (arith, c.positions.invariant.come.within))

pub returns-then-not-goes_on-clause-sharp : goal.returns-then-not-goes_on-clause-sharp
returns-then-not-goes_on-clause-sharp g c =
    let s : Sight = seen_by c.args.course g.text in
    let at : ℕ = c.positions.at in
    let width : ℕ = c.args.scratch.now.next.threads.width in
    let last : ℕ = c.args.course.last in
    let inv = c.positions.invariant in
    let w = first_waits (size c.args.course) (min c.args.course.hi (at + 3)) at width last c.positions.scratch.curr.items c.positions.best inv.come.lined.inside
    inv.live in
    ⊎_elim (λ l. inl (omega (arith, l)))
    (λ more. inr (still_on s width c.args.from last (at - 1) at (omega (arith, more)) (omega arith) w.0 w.1 (best_of c.positions.best c.positions.scratch.found.items)
    w.3 w.4
    (λ o x. inv.carries (Some (at - 1)) (omega arith) o
    (subst (λ ts. CarriesTo (Some (at - 1)) s at [] [] ts (best_of c.positions.best c.positions.scratch.found.items) o) (sym w.2) x))))
    (cases_lt at 1)

pub returns-clause-sharp : goal.returns-clause-sharp
returns-clause-sharp g c =
    let inv = c.positions.invariant in
    let none = ap length (none_in (size c.args.course) c.positions.at (min c.args.course.hi (c.positions.at + 3)) c.positions.scratch.curr.items
    inv.come.lined.inside (omega (arith, c.positions-test.false))) in
    absurd (⊎_elim (λ some. let e : ⊥ = omega (arith, some, none) in e) (λ q. let l = q.1 in let e : ⊥ = omega (arith, l, c.positions-test.false, c.args.course.ordered) in e) inv.live)
