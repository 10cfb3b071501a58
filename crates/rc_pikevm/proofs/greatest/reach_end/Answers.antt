use Rattle.std.proofs.Common.{ℕ, ◌+◌, sym, ap, ◌∙◌, arith, ⊎_elim, true≢false, rules, ◌-◌, ◌≤◌}
use Rattle.rc_pikevm.specs.Moves.{seen_by}
use Rattle.rc_pikevm.specs.Near.{size}
use Rattle.rc_pikevm.specs.Spread.{IsCovering}
use Rattle.rc_pikevm.proofs.KeptLemmas.{kept_back, kept_window, kept_begun, kept_around, same_on}
use Rattle.rc_pikevm.proofs.PassingLemmas.{counts_fit, counted_at_last}
use Rattle.rc_pikevm.proofs.SpreadPassLemmas.{covering_turns, covering_done, covering_ends}
use Rattle.rc_pikevm.proofs.greatest.reach_end.Given.{Over}
use Rattle.rc_pikevm.proofs.greatest.reach_end.Goals as goal
use Rattle.rc_pikevm.proofs.greatest.reach_end.Goals.{After-turn}

pub spot_at-requires : goal.spot_at-requires
spot_at-requires g c =
    let at : ℕ = c.positions.at in
    let back = kept_back c.positions.invariant.keeps in
    let r = c.reach.ensures in (
      c.requires.1.1.0,
      (
        kept_window back r.window,
        (
          kept_begun back r.begun,
          (kept_around back r.around, omega (arith, c.positions-test.true)),
        ),
      ),
    )

pub turn-requires : goal.turn-requires
turn-requires g c =
    let inv = c.positions.invariant in (
      c.spot_at.ensures.here,
      (
        inv.same.capacity ∙ c.requires.1.1.1.1.0.capacity ∙ sym (ap size c.spot_at.ensures.course),
        (
          rw (c.spot_at.ensures.course, c.spot_at.ensures.at) inv.covering.lined,
          (
            rw c.spot_at.ensures.at inv.covering.ordered,
            (
              inv.covering.ended,
              rw c.spot_at.ensures.course (counts_fit (size c.args.course) (c.positions.at - c.args.from) c.positions.scratch.insertions
                  (omega (arith, c.args.scratch.now.next.stack.small, c.args.scratch.now.next.fits, c.requires.1.1.1.1.0.capacity))
                  (omega (arith, c.args.course.small, c.positions-test.true)) inv.covering.few),
            ),
          ),
        ),
      ),
    )

covers : (g : Over) (c : After-turn g) →
    IsCovering (seen_by c.args.course g.text) (size c.args.course) c.args.course.hi c.args.from c.args.course.last (c.positions.at + 1)
    c.turn.new.scratch.insertions c.turn.new.scratch.curr c.turn.new.best
covers g c =
    covering_turns c.positions.invariant.covering (omega (arith, c.positions-test.true))
    (rw (c.spot_at.ensures.course, c.spot_at.ensures.at) at c.turn.ensures.seeks)
    (rw (c.spot_at.ensures.course, c.spot_at.ensures.at) at c.turn.ensures.lined) (rw c.spot_at.ensures.at at c.turn.ensures.ordered)
    c.turn.ensures.counted (rw c.spot_at.ensures.course at c.turn.ensures.few)

pub returns-then-is_done-clause-top : goal.returns-then-is_done-clause-top
returns-then-is_done-clause-top g c =
    let ended = c.is_done.ensures c.if-is_done.true in
    let over : c.args.course.last ≤ c.positions.at = ⊎_elim (λ e. absurd (true≢false e)) (λ l. l) ended.1 in
    covering_done (covers g (goal.at.returns-then-is_done-clause-top g c).After-turn) ended.0 (omega (arith, over))

pub positions-preserved : goal.positions-preserved
positions-preserved g c = record {
  keeps = search rules;
  window = search rules;
  begun = search rules;
  covering = covers g (goal.at.positions-preserved g c).After-turn;
  same = same_on c.positions.invariant.same c.turn.ensures.same;
}

pub returns-clause-top : goal.returns-clause-top
returns-clause-top g c =
    covering_ends c.positions.invariant.covering (omega (arith, c.positions-test.false)) c.args.course.ordered

pub returns-then-is_done-clause-few : goal.returns-then-is_done-clause-few
returns-then-is_done-clause-few g c =
    counted_at_last (size c.args.course) c.positions.at c.args.from c.args.course.hi c.positions.scratch.insertions c.turn.new.scratch.insertions
    c.positions.invariant.covering.few (rw c.spot_at.ensures.course at c.turn.ensures.few) (omega (arith, c.positions-test.true))
    c.positions.invariant.covering.reached
