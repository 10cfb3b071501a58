use Rattle.std.proofs.Common.{ℕ, ◌+◌, ◌-◌, arith, sym, ap, ◌∙◌}
use Rattle.rc_pikevm.specs.Threads.{ThreadList}
use Rattle.rc_pikevm.specs.Near.{seen_from}
use Rattle.rc_pikevm.specs.Marking.{entering}
use Rattle.rc_pikevm.proofs.TurnLemmas.{inside_by, lined_next, ready_for}
use Rattle.rc_pikevm.proofs.MarkMoveLemmas.{same_then, turned_over}
use Rattle.rc_pikevm.proofs.MarkStepLemmas.{entries_later}
use Rattle.rc_pikevm.proofs.which.turn.Goals as goal

pub advance-requires : goal.advance-requires
advance-requires g c = (
  c.requires.0,
  (
    ready_for c.args.spot.now c.args.scratch.now.next.threads c.args.scratch.now.next.entered c.clear.new.self c.requires.1.1.0 c.clear.ensures.threads
        c.clear.ensures.entered c.args.scratch.now.alike.0 c.requires.1.0,
    (
      (
        c.requires.1.1.0.width_is,
        ap (λ (l : ThreadList). l.width) c.clear.ensures.threads ∙ sym c.args.scratch.now.alike.2 ∙ c.requires.1.1.0.width_is,
      ),
      (c.requires.1.1.1.1.0, c.requires.1.1.1.1.1),
    ),
  ),
)

pub finish-requires-clause-inside : goal.finish-requires-clause-inside
finish-requires-clause-inside g c = inside_by c.advance.ensures.stepped.sound

pub returns-clause-same : goal.returns-clause-same
returns-clause-same g c p low =
    let s = seen_from c.args.spot.now g.text in
    let at : ℕ = c.args.spot.now.at in
    let last : ℕ = c.args.spot.now.course.last in
    same_then (c.advance.ensures.same p low)
    (rw c.finish.ensures.threads
    (turned_over s p at c.advance.new.set c.advance.new.growth.threads.items c.advance.new.growth.entered.items (entering (at + 1) last)
    (entries_later s p at (at + 1) (last + 1 - (at + 1)) (omega arith))))

pub returns-clause-lined : goal.returns-clause-lined
returns-clause-lined g c =
    lined_next c.args.scratch.now.next.threads c.requires.0.setting.bound c.finish.ensures.threads c.clear.ensures.threads c.args.scratch.now.alike c.requires.1.1.0 c.advance.ensures.stepped
    c.finish.ensures.some
