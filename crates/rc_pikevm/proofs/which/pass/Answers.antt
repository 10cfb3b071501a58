use Rattle.std.proofs.Common.{◌+◌, sym, ap, subst, refl, ◌∙◌, arith, ⊎_elim, true≢false, ◌-◌, ◌≤◌}
use Rattle.rc_text.specs.Text.{Keeps}
use Rattle.rc_pikevm.specs.Threads.{ThreadList}
use Rattle.rc_pikevm.specs.Moves.{seen_by}
use Rattle.rc_pikevm.specs.Near.{size}
use Rattle.rc_pikevm.specs.Marking.{HasNoneBefore, IsMarkingFrom}
use Rattle.rc_pikevm.specs.Windows.{IsWindow, IsBegun, IsAround}
use Rattle.rc_pikevm.proofs.KeptLemmas.{kept_back, kept_then, kept_seen_by, kept_window, kept_begun, kept_around, begun_from, begun_later, same_on}
use Rattle.rc_pikevm.proofs.PassingLemmas.{counts_fit}
use Rattle.rc_pikevm.proofs.MarkStepLemmas.{marking_from, marking_skips, marking_turns, marking_done, marking_ends, marking_full, all_then}
use Rattle.rc_pikevm.proofs.which.pass.Given.{Over}
use Rattle.rc_pikevm.proofs.which.pass.Goals as goal
use Rattle.rc_pikevm.proofs.which.pass.Goals.{After-next_start-start, After-skip_to-at, After-reach, After-turn}

pub positions-init : goal.positions-init
positions-init g c = record {
  keeps = kept_then c.requires.1.0 c.open-window.ensures.keeps;
  window = kept_window (kept_back c.requires.1.0) c.open-window.ensures.window;
  begun = kept_begun (kept_back c.requires.1.0) c.open-window.ensures.begun;
  marking = marking_from (ap (λ (l : ThreadList). l.items) c.clear.ensures) (ap (λ (l : ThreadList). l.width) c.clear.ensures)
      (let r = ap (λ (l : ThreadList). l.room) c.clear.ensures in omega (arith, r, c.args.scratch.now.alike.0, c.requires.1.1.1.1.0.room))
      c.requires.1.1.1.0.1 c.args.course.ordered;
  full = λ p l u. absurd (omega (arith, l, u));
  near = omega (arith, c.requires.1.1.1.0.1, c.args.course.ordered);
  none = λ y l u. absurd (omega (arith, l, u));
  same = record { capacity = refl; room = refl; most = refl; width = refl };
}

pub next_start-start-requires-clause-none : goal.next_start-start-requires-clause-none
next_start-start-requires-clause-none g c =
    subst (λ s. HasNoneBefore s c.positions.at c.positions.start)
    (sym (kept_seen_by c.args.course c.positions.invariant.keeps)) c.positions.invariant.none

-- no walk begins before the next start
started : (g : Over) (c : After-next_start-start g) → HasNoneBefore (seen_by c.args.course g.text) c.positions.at c.next_start-start.result
started g c =
    subst (λ s. HasNoneBefore s c.positions.at c.next_start-start.result)
    (kept_seen_by c.args.course c.positions.invariant.keeps) c.next_start-start.ensures.none

kept : (g : Over) (c : After-next_start-start g) → Keeps g.text c.next_start-start.new.input
kept g c = kept_then c.positions.invariant.keeps c.next_start-start.ensures.keeps

-- the pass has come to the position from which it goes on
skipped : (g : Over) (c : After-skip_to-at g) → HasNoneBefore (seen_by c.args.course g.text) c.positions.at c.next_start-start.result →
    IsMarkingFrom (seen_by c.args.course g.text) (size c.args.course) c.args.course.hi c.args.from c.args.course.last c.skip_to-at.result
    c.positions.scratch.insertions c.positions.scratch.curr c.args.set.now c.positions.set
skipped g c none =
    marking_skips c.next_start-start.result c.positions.invariant.marking c.skip_to-at.ensures.within.0
    (omega (arith, c.skip_to-at.ensures.within.1, c.next_start-start.ensures.within.1)) none c.skip_to-at.ensures.idle

pub reach-requires-clause-inside : goal.reach-requires-clause-inside
reach-requires-clause-inside g c =
    let keeps = kept g (goal.at.reach-requires-clause-inside g c).After-next_start-start in
    rw (keeps.slice, keeps.content)
    (omega (arith, c.requires.1.1.1.0, c.positions.invariant.marking.reached, c.skip_to-at.ensures.within.0), omega (arith, c.requires.1.1.0.bound, c.if-at-course.false))

pub reach-requires-clause-begun : goal.reach-requires-clause-begun
reach-requires-clause-begun g c =
    kept_begun (kept g (goal.at.reach-requires-clause-begun g c).After-next_start-start)
    (begun_from c.skip_to-at.ensures.within.0 c.positions.invariant.begun)

-- the window shows what is around the position
shown : (g : Over) (c : After-reach g) → IsWindow g.text c.reach.new.window
    × (IsBegun g.text c.skip_to-at.result c.reach.new.window × IsAround g.text c.skip_to-at.result c.reach.new.window)
shown g c =
    let back = kept_back (kept_then c.positions.invariant.keeps c.next_start-start.ensures.keeps) in
    let r = c.reach.ensures in (kept_window back r.window, (kept_begun back r.begun, kept_around back r.around))

pub spot_at-requires : goal.spot_at-requires
spot_at-requires g c =
    let r = shown g (goal.at.spot_at-requires g c).After-reach in
    (c.requires.1.1.0, (r.0, (r.1.0, (r.1.1, omega (arith, c.if-at-course.false)))))

pub turn-requires : goal.turn-requires
turn-requires g c =
    let here = skipped g (goal.at.turn-requires g c).After-skip_to-at (started g (goal.at.turn-requires g c).After-next_start-start) in (
      c.spot_at.ensures.here,
      (
        c.positions.invariant.same.capacity ∙ c.requires.1.1.1.1.0.capacity ∙ sym (ap size c.spot_at.ensures.course),
        (
          rw (c.spot_at.ensures.course, c.spot_at.ensures.at) here.lined,
          (
            rw c.spot_at.ensures.course (counts_fit (size c.args.course) (c.skip_to-at.result - c.args.from) c.positions.scratch.insertions
                (omega (arith, c.args.scratch.now.next.stack.small, c.args.scratch.now.next.fits, c.requires.1.1.1.1.0.capacity))
                (omega (arith, c.args.course.small, c.if-at-course.false)) here.few),
            (
              rw (c.spot_at.ensures.course, c.spot_at.ensures.at)
                  (λ off. started g (goal.at.turn-requires g c).After-next_start-start c.skip_to-at.result c.skip_to-at.ensures.within.0
                  (c.is_reached.ensures off)),
              rw c.spot_at.ensures.course c.requires.1.1.1.1.1.1.1,
            ),
          ),
        ),
      ),
    )

marks : (g : Over) (c : After-turn g) →
    IsMarkingFrom (seen_by c.args.course g.text) (size c.args.course) c.args.course.hi c.args.from c.args.course.last c.skip_to-at.result
    c.positions.scratch.insertions c.positions.scratch.curr c.args.set.now c.positions.set →
    IsMarkingFrom (seen_by c.args.course g.text) (size c.args.course) c.args.course.hi c.args.from c.args.course.last (c.skip_to-at.result + 1)
    c.turn.new.scratch.insertions c.turn.new.scratch.curr c.args.set.now c.turn.new.set
marks g c here =
    marking_turns here (omega (arith, c.if-at-course.false)) (rw (c.spot_at.ensures.course, c.spot_at.ensures.at) at c.turn.ensures.same)
    c.turn.ensures.long c.turn.ensures.more (rw (c.spot_at.ensures.course, c.spot_at.ensures.at) at c.turn.ensures.lined)
    (rw c.spot_at.ensures.course at c.turn.ensures.few)

pub returns-then-absent-wanted-clause-marks : goal.returns-then-absent-wanted-clause-marks
returns-then-absent-wanted-clause-marks g c =
    marking_full c.first_absent-absent.result c.positions.invariant.marking
    (all_then c.args.wanted.0 c.positions.absent c.first_absent-absent.result c.positions.set c.positions.set (λ p h. h) c.positions.invariant.full
    c.first_absent-absent.ensures.members)
    c.if-absent-wanted.true

pub returns-then-at-course-clause-marks : goal.returns-then-at-course-clause-marks
returns-then-at-course-clause-marks g c =
    marking_ends (skipped g (goal.at.returns-then-at-course-clause-marks g c).After-skip_to-at
    (started g (goal.at.returns-then-at-course-clause-marks g c).After-next_start-start))
    (omega (arith, c.if-at-course.true)) c.args.course.ordered

pub returns-then-is_done-clause-marks : goal.returns-then-is_done-clause-marks
returns-then-is_done-clause-marks g c =
    let ended = c.is_done.ensures c.if-is_done.true in
    let over : c.args.course.last ≤ c.skip_to-at.result = ⊎_elim (λ e. absurd (true≢false e)) (λ l. l) ended.1 in
    marking_done
    (marks g (goal.at.returns-then-is_done-clause-marks g c).After-turn (skipped g (goal.at.returns-then-is_done-clause-marks g c).After-skip_to-at
    (started g (goal.at.returns-then-is_done-clause-marks g c).After-next_start-start)))
    ended.0 (omega (arith, over))

pub overflow_add-at : goal.overflow_add-at
overflow_add-at g c = omega (arith, c.if-at-course.false, c.args.course.small)

pub positions-smaller : goal.positions-smaller
positions-smaller g c = omega (arith, c.skip_to-at.ensures.within.0, c.if-at-course.false)

pub positions-preserved : goal.positions-preserved
positions-preserved g c =
    let inv = c.positions.invariant in
    let r = shown g (goal.at.positions-preserved g c).After-reach in
    record {
      keeps = kept_then (kept g (goal.at.positions-preserved g c).After-next_start-start) c.reach.ensures.keeps;
      window = r.0;
      begun = begun_later r.1.0;
      marking = marks g (goal.at.positions-preserved g c).After-turn (skipped g (goal.at.positions-preserved g c).After-skip_to-at
          (started g (goal.at.positions-preserved g c).After-next_start-start));
      full = λ p l u.
          c.turn.ensures.more p (all_then c.args.wanted.0 c.positions.absent c.first_absent-absent.result c.positions.set c.positions.set (λ q h. h)
          inv.full c.first_absent-absent.ensures.members p l u);
      near = c.next_start-start.ensures.within.1;
      none = λ y l u. started g (goal.at.positions-preserved g c).After-next_start-start y (omega (arith, l, c.skip_to-at.ensures.within.0)) u;
      same = same_on inv.same c.turn.ensures.kept;
    }

pub returns-clause-marks : goal.returns-clause-marks
returns-clause-marks g c =
    marking_ends c.positions.invariant.marking (omega (arith, c.positions-test.false)) c.args.course.ordered
