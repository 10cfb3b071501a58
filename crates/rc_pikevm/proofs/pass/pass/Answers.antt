use Rattle.std.proofs.Common.{◌<◌, ◌≡◌, ◌⊎◌, ℕ, None, ◌+◌, length, refl, sym, ap, subst, ◌∙◌, arith, ◌-◌, ◌≤◌}
use Rattle.rc_pikevm.specs.Sights.{HasNoWalkFrom}
use Rattle.rc_text.specs.Text.{Keeps}
use Rattle.rc_pikevm.specs.Threads.{ThreadList}
use Rattle.rc_pikevm.specs.Moves.{seen_by}
use Rattle.rc_pikevm.specs.Near.{size}
use Rattle.rc_pikevm.specs.Windows.{IsWindow, IsBegun, IsAround}
use Rattle.rc_pikevm.specs.Passing.{IsLined, best_of}
use Rattle.rc_pikevm.specs.Races.{IsCutOff}
use Rattle.rc_pikevm.specs.Roots.{StandsFor}
use Rattle.rc_pikevm.specs.Rules.{GivesBy}
use Rattle.rc_pikevm.specs.Underway.{HasCome}
use Rattle.rc_pikevm.proofs.KeptLemmas.{kept_back, kept_then, kept_seen_by, kept_window, kept_begun, kept_around, begun_from, begun_later}
use Rattle.rc_pikevm.proofs.PassingLemmas.{GoesOn, counts_fit, counts_small, counted_in_all, counted_at_last}
use Rattle.rc_pikevm.proofs.UnderwayLemmas.{begins_by, early_by, ends_by, enters_there, gives_up_by, goes_on_by, spent_by, stops_by, tells_by, turns_by, widened}
use Rattle.std.proofs.lemmas.List.{length-map}
use Rattle.rc_program.specs.Places.{place_of}
use Rattle.rc_pikevm.proofs.pass.pass.Given.{Over}
use Rattle.rc_pikevm.proofs.pass.pass.Goals as goal
use Rattle.rc_pikevm.proofs.pass.pass.Goals.{After-next_position, After-reach, After-try_fast_path-here, After-turn_by, After-positions, In_default}

-- the pass has come to the next position
moved : (g : Over) (c : After-next_position g) (x : ℕ) →
    GoesOn (seen_by c.args.course c.positions.input) c.args.course.hi c.is_idle-idle.result c.positions.at x →
    HasCome c.args.rule c.args.course g.text c.args.scratch.now.next.threads.width c.args.from x c.positions.scratch c.positions.best
moved g c x on =
    goes_on_by c.is_idle-idle.result c.positions.invariant.come c.is_idle-idle.ensures
    (subst (λ s. GoesOn s c.args.course.hi c.is_idle-idle.result c.positions.at x)
    (kept_seen_by c.args.course c.positions.invariant.keeps) on)

-- what was simple has gone on from there
gone : (g : Over) (c : After-try_fast_path-here g) →
    HasCome c.args.rule c.args.course g.text c.args.scratch.now.next.threads.width c.args.from c.try_fast_path-here.result c.try_fast_path-here.new.scratch
    c.try_fast_path-here.new.best
gone g c =
    let wide = c.positions.invariant.same.width in
    let here : HasCome c.args.rule c.args.course g.text c.positions.scratch.next.threads.width c.args.from c.in-Some.next_at c.positions.scratch c.positions.best =
    widened (sym wide)
    (goes_on_by c.is_idle-idle.result c.positions.invariant.come c.is_idle-idle.ensures
    (subst (λ s. GoesOn s c.args.course.hi c.is_idle-idle.result c.positions.at c.in-Some.next_at)
    (kept_seen_by c.args.course c.positions.invariant.keeps) (c.in-Some.ensures.next c.requires.1.1.1.0))) in
    widened wide
    (c.try_fast_path-here.ensures.come c.args.rule c.args.from (sym c.root_of-root.ensures)
    (record { law = here.law; lined = here.lined; ended = here.ended; few = here.few; reached = here.reached; within = here.within }))

-- the threads have gone on there
turned : (g : Over) (c : After-turn_by g) →
    HasCome c.args.rule c.args.course g.text c.args.scratch.now.next.threads.width c.args.from c.try_fast_path-here.result c.try_fast_path-here.new.scratch
    c.try_fast_path-here.new.best →
    HasCome c.args.rule c.args.course g.text c.args.scratch.now.next.threads.width c.args.from (c.try_fast_path-here.result + 1) c.turn_by.new.scratch
    c.turn_by.new.best
turned g c here =
    let wide = c.try_fast_path-here.ensures.same.width ∙ c.positions.invariant.same.width in
    widened wide
    (turns_by (widened (sym wide) here) c.try_fast_path-here.ensures.within
    (rw (c.spot_at.ensures.course, c.spot_at.ensures.at) at c.turn_by.ensures.turns)
    (rw (c.spot_at.ensures.course, c.spot_at.ensures.at) at c.turn_by.ensures.lined)
    c.turn_by.ensures.counted (rw c.spot_at.ensures.course at c.turn_by.ensures.few))

pub positions-init : goal.positions-init
positions-init g c = record {
  keeps = kept_then c.requires.1.0 c.open-window.ensures.keeps;
  window = kept_window (kept_back c.requires.1.0) c.open-window.ensures.window;
  begun = kept_begun (kept_back c.requires.1.0) c.open-window.ensures.begun;
  come = begins_by refl (ap (λ (l : ThreadList). l.items) c.clear.ensures)
      (let w = ap (λ (l : ThreadList). l.width) c.clear.ensures in
      omega (arith, w, c.len.ensures, c.args.scratch.now.next.wide.0, c.args.scratch.now.next.slots.ok.0))
      (let r = ap (λ (l : ThreadList). l.room) c.clear.ensures in omega (arith, r, c.args.scratch.now.alike.0, c.requires.1.1.1.1.1.0.room))
      c.requires.1.1.1.1.0.1;
  same = record { capacity = refl; room = refl; most = refl; width = refl };
}

-- all positions are done
ended : (g : Over) (c : After-positions g) → GivesBy c.args.rule (seen_by c.args.course g.text) c.args.scratch.now.next.threads.width c.args.from
    c.args.course.last (best_of c.positions.best c.positions.scratch.found.items)
ended g c = ends_by c.positions.invariant.come (omega (arith, c.positions-test.false)) c.requires.1.1.1.1.0.1

pub returns-clause-gives : goal.returns-clause-gives
returns-clause-gives g c = λ _. ended g (goal.at.returns-clause-gives g c).After-positions

pub returns-clause-tells : goal.returns-clause-tells
returns-clause-tells g c =
    tells_by c.args.rule (seen_by c.args.course g.text) c.args.scratch.now.next.threads.width c.args.from c.args.course.last c.positions.best
    c.positions.scratch.found.items (ended g (goal.at.returns-clause-tells g c).After-positions)

-- no start is left that has a walk
none_left : (g : Over) (c : In_default g) →
    GivesBy c.args.rule (seen_by c.args.course g.text) c.args.scratch.now.next.threads.width c.args.from c.args.course.last None
none_left g c =
    let on = c.in_default.ensures.next c.requires.1.1.1.0 in
    let alone = c.is_idle-idle.ensures on.0 in
    gives_up_by c.positions.invariant.come alone.0 alone.1 c.positions-test.true c.requires.1.1.1.1.0.1
    (subst (λ s. (y : ℕ) → c.positions.at ≤ y → y ≤ c.args.course.hi → HasNoWalkFrom s y)
    (kept_seen_by c.args.course c.positions.invariant.keeps) on.1)

pub returns-in_default-clause-gives : goal.returns-in_default-clause-gives
returns-in_default-clause-gives g c = λ _. none_left g (goal.at.returns-in_default-clause-gives g c).In_default

pub returns-in_default-clause-tells : goal.returns-in_default-clause-tells
returns-in_default-clause-tells g c =
    tells_by c.args.rule (seen_by c.args.course g.text) c.args.scratch.now.next.threads.width c.args.from c.args.course.last None
    c.positions.scratch.found.items (none_left g (goal.at.returns-in_default-clause-tells g c).In_default)

pub reach-requires-clause-inside : goal.reach-requires-clause-inside
reach-requires-clause-inside g c =
    let on = c.in-Some.ensures.next c.requires.1.1.1.0 in
    let inv = c.positions.invariant in
    let keeps : Keeps g.text c.next_position.new.input = kept_then inv.keeps c.in-Some.ensures.keeps in
    rw (keeps.slice, keeps.content)
    (omega (arith, c.requires.1.1.1.1.0, inv.come.reached, on.0), omega (arith, c.requires.1.1.0.bound, on.1))

pub reach-requires-clause-begun : goal.reach-requires-clause-begun
reach-requires-clause-begun g c =
    let on = c.in-Some.ensures.next c.requires.1.1.1.0 in
    let inv = c.positions.invariant in
    let keeps : Keeps g.text c.next_position.new.input = kept_then inv.keeps c.in-Some.ensures.keeps in
    kept_begun keeps (begun_from on.0 inv.begun)

-- the window shows what is around the position
shown : (g : Over) (c : After-reach g) → (c.in-Some.next_at ≤ c.args.course.hi) → IsWindow g.text c.reach.new.window
    × (IsBegun g.text c.in-Some.next_at c.reach.new.window × IsAround g.text c.in-Some.next_at c.reach.new.window)
shown g c within =
    let at : ℕ = c.in-Some.next_at in
    let back = kept_back (kept_then c.positions.invariant.keeps c.in-Some.ensures.keeps) in
    let r = c.reach.ensures in (kept_window back r.window, (kept_begun back r.begun, kept_around back r.around))

pub try_fast_path-here-requires : goal.try_fast_path-here-requires
try_fast_path-here-requires g c =
    let at : ℕ = c.in-Some.next_at in
    let on = c.in-Some.ensures.next c.requires.1.1.1.0 in
    let here = moved g (goal.at.try_fast_path-here-requires g c).After-next_position at on in
    let r = shown g (goal.at.try_fast_path-here-requires g c).After-reach on.1 in
    let rooted = subst (λ n. 0 < n) (length-map c.args.course.program.now.places.items place_of) c.args.course.program.now.runnable.rooted in
    let there = enters_there c.args.rule (size c.args.course) (seen_by c.args.course g.text) rooted c.requires.1.1.1.1.1.1 in (
      c.requires.1.1.0,
      (
        r.0,
        (
          r.1.0,
          (
            r.1.1,
            (
              on.1,
              (
                subst (λ r. r < size c.args.course) (sym c.root_of-root.ensures) there.0,
                (
                  subst (StandsFor (seen_by c.args.course g.text)) (sym c.root_of-root.ensures) there.1,
                  (
                    counts_small (size c.args.course) (at - c.args.from) c.positions.scratch.insertions
                        (omega (arith, c.args.scratch.now.next.stack.small, c.args.scratch.now.next.fits, c.requires.1.1.1.1.1.0.capacity))
                        (omega (arith, c.args.course.small, on.1)) here.few,
                    subst (λ w. IsLined (seen_by c.args.course g.text) (size c.args.course) c.args.course.hi w at c.positions.scratch.insertions c.positions.scratch.curr)
                        (sym c.positions.invariant.same.width) here.lined,
                  ),
                ),
              ),
            ),
          ),
        ),
      ),
    )

pub spot_at-requires : goal.spot_at-requires
spot_at-requires g c =
    let on = c.in-Some.ensures.next c.requires.1.1.1.0 in
    let r = shown g (goal.at.spot_at-requires g c).After-reach on.1 in (
      c.requires.1.1.0,
      (
        r.0,
        (
          begun_from c.try_fast_path-here.ensures.later r.1.0,
          (c.try_fast_path-here.ensures.around, c.try_fast_path-here.ensures.within),
        ),
      ),
    )

pub turn_by-requires : goal.turn_by-requires
turn_by-requires g c =
    let at : ℕ = c.try_fast_path-here.result in
    let same = c.try_fast_path-here.ensures.same in
    let inv = c.positions.invariant in
    let here = gone g (goal.at.turn_by-requires g c).After-try_fast_path-here in (
      c.spot_at.ensures.here,
      (
        same.capacity ∙ inv.same.capacity ∙ c.requires.1.1.1.1.1.0.capacity ∙ sym (ap size c.spot_at.ensures.course),
        (
          rw (c.spot_at.ensures.course, c.spot_at.ensures.at)
              (subst (λ w. IsLined (seen_by c.args.course g.text) (size c.args.course) c.args.course.hi w at c.try_fast_path-here.new.scratch.insertions c.try_fast_path-here.new.scratch.curr)
              (sym (same.width ∙ inv.same.width)) here.lined),
          (
            here.ended,
            (
              rw c.spot_at.ensures.course (counts_fit (size c.args.course) (at - c.args.from) c.try_fast_path-here.new.scratch.insertions
                  (omega (arith, c.args.scratch.now.next.stack.small, c.args.scratch.now.next.fits, c.requires.1.1.1.1.1.0.capacity))
                  (omega (arith, c.args.course.small, c.try_fast_path-here.ensures.within)) here.few),
              rw c.spot_at.ensures.course c.requires.1.1.1.1.1.1,
            ),
          ),
        ),
      ),
    )

-- no thread is left, and no start is sought
spent : (g : Over) (c : After-try_fast_path-here g) →
    (length c.try_fast_path-here.new.scratch.curr.items ≡ 0) × IsCutOff c.try_fast_path-here.new.best c.try_fast_path-here.result →
    GivesBy c.args.rule (seen_by c.args.course g.text) c.args.scratch.now.next.threads.width c.args.from c.args.course.last
    (best_of c.try_fast_path-here.new.best c.try_fast_path-here.new.scratch.found.items)
spent g c ended = spent_by (gone g c) ended.0 ended.1 c.requires.1.1.1.1.0.1

pub returns-then-is_spent-clause-gives : goal.returns-then-is_spent-clause-gives
returns-then-is_spent-clause-gives g c = λ _.
    spent g (goal.at.returns-then-is_spent-clause-gives g c).After-try_fast_path-here (c.is_spent.ensures c.if-is_spent.true)

pub returns-then-is_spent-clause-tells : goal.returns-then-is_spent-clause-tells
returns-then-is_spent-clause-tells g c =
    tells_by c.args.rule (seen_by c.args.course g.text) c.args.scratch.now.next.threads.width c.args.from c.args.course.last
    c.try_fast_path-here.new.best c.try_fast_path-here.new.scratch.found.items
    (spent g (goal.at.returns-then-is_spent-clause-tells g c).After-try_fast_path-here (c.is_spent.ensures c.if-is_spent.true))

pub returns-then-is_spent-clause-counted : goal.returns-then-is_spent-clause-counted
returns-then-is_spent-clause-counted g c =
    (gone g (goal.at.returns-then-is_spent-clause-counted g c).After-try_fast_path-here).ended

pub returns-then-is_spent-clause-few : goal.returns-then-is_spent-clause-few
returns-then-is_spent-clause-few g c =
    let here = gone g (goal.at.returns-then-is_spent-clause-few g c).After-try_fast_path-here in
    counted_in_all (size c.args.course) c.try_fast_path-here.result c.args.from c.args.course.hi c.try_fast_path-here.new.scratch.insertions
    here.few here.within (omega (arith, c.requires.1.1.1.1.0.1, c.args.course.ordered))

pub returns-then-is_some-clause-tells : goal.returns-then-is_some-clause-tells
returns-then-is_some-clause-tells g c =
    early_by
    (turned g (goal.at.returns-then-is_some-clause-tells g c).After-turn_by
    (gone g (goal.at.returns-then-is_some-clause-tells g c).After-try_fast_path-here))
    c.requires.1.1.0.bound (sym c.is_some.ensures ∙ c.if-is_some.true)

pub returns-then-is_some-clause-few : goal.returns-then-is_some-clause-few
returns-then-is_some-clause-few g c =
    let here = gone g (goal.at.returns-then-is_some-clause-few g c).After-try_fast_path-here in
    counted_at_last (size c.args.course) c.try_fast_path-here.result c.args.from c.args.course.hi c.try_fast_path-here.new.scratch.insertions c.turn_by.new.scratch.insertions
    here.few (rw c.spot_at.ensures.course at c.turn_by.ensures.few) (omega (arith, c.try_fast_path-here.ensures.within)) here.reached

-- no thread is left, and no start
stopped : (g : Over) (c : After-turn_by g) → (length c.turn_by.new.scratch.curr.items ≡ 0)
    × ((c.args.course.last ≤ c.try_fast_path-here.result) ⊎ IsCutOff c.turn_by.new.best (c.try_fast_path-here.result + 1)) →
    HasCome c.args.rule c.args.course g.text c.args.scratch.now.next.threads.width c.args.from c.try_fast_path-here.result c.try_fast_path-here.new.scratch
    c.try_fast_path-here.new.best →
    GivesBy c.args.rule (seen_by c.args.course g.text) c.args.scratch.now.next.threads.width c.args.from c.args.course.last
    (best_of c.turn_by.new.best c.turn_by.new.scratch.found.items)
stopped g c ended here = stops_by (turned g c here) ended.0 ended.1 c.requires.1.1.1.1.0.1

pub returns-then-is_over-clause-gives : goal.returns-then-is_over-clause-gives
returns-then-is_over-clause-gives g c = λ _.
    stopped g (goal.at.returns-then-is_over-clause-gives g c).After-turn_by (c.is_over.ensures c.if-is_over.true)
    (gone g (goal.at.returns-then-is_over-clause-gives g c).After-try_fast_path-here)

pub returns-then-is_over-clause-tells : goal.returns-then-is_over-clause-tells
returns-then-is_over-clause-tells g c =
    tells_by c.args.rule (seen_by c.args.course g.text) c.args.scratch.now.next.threads.width c.args.from c.args.course.last c.turn_by.new.best
    c.turn_by.new.scratch.found.items
    (stopped g (goal.at.returns-then-is_over-clause-tells g c).After-turn_by (c.is_over.ensures c.if-is_over.true)
    (gone g (goal.at.returns-then-is_over-clause-tells g c).After-try_fast_path-here))

pub returns-then-is_over-clause-few : goal.returns-then-is_over-clause-few
returns-then-is_over-clause-few g c =
    let here = gone g (goal.at.returns-then-is_over-clause-few g c).After-try_fast_path-here in
    counted_at_last (size c.args.course) c.try_fast_path-here.result c.args.from c.args.course.hi c.try_fast_path-here.new.scratch.insertions c.turn_by.new.scratch.insertions
    here.few (rw c.spot_at.ensures.course at c.turn_by.ensures.few) (omega (arith, c.try_fast_path-here.ensures.within)) here.reached

pub overflow_add-at : goal.overflow_add-at
overflow_add-at g c = omega (arith, c.try_fast_path-here.ensures.within, c.args.course.small)

pub positions-smaller : goal.positions-smaller
positions-smaller g c =
    let on = c.in-Some.ensures.next c.requires.1.1.1.0 in
    omega (arith, on.0, c.try_fast_path-here.ensures.later, c.try_fast_path-here.ensures.within)

pub positions-preserved : goal.positions-preserved
positions-preserved g c =
    let inv = c.positions.invariant in
    let on = c.in-Some.ensures.next c.requires.1.1.1.0 in
    let keeps : Keeps g.text c.next_position.new.input = kept_then inv.keeps c.in-Some.ensures.keeps in
    let r = shown g (goal.at.positions-preserved g c).After-reach on.1 in
    let there = turned g (goal.at.positions-preserved g c).After-turn_by
    (gone g (goal.at.positions-preserved g c).After-try_fast_path-here) in
    record {
      keeps = kept_then keeps c.reach.ensures.keeps;
      window = r.0;
      begun = begun_later (begun_from c.try_fast_path-here.ensures.later r.1.0);
      come = record { law = there.law; lined = there.lined; ended = there.ended; few = there.few; reached = there.reached; within = there.within };
      same = record {
        capacity = c.turn_by.ensures.same.capacity ∙ c.try_fast_path-here.ensures.same.capacity ∙ inv.same.capacity;
        room = c.turn_by.ensures.same.room ∙ c.try_fast_path-here.ensures.same.room ∙ inv.same.room;
        most = c.turn_by.ensures.same.most ∙ c.try_fast_path-here.ensures.same.most ∙ inv.same.most;
        width = c.turn_by.ensures.same.width ∙ c.try_fast_path-here.ensures.same.width ∙ inv.same.width;
      };
    }
