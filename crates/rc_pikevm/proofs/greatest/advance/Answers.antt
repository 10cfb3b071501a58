use Rattle.std.proofs.Common.{ℕ, ◌+◌, ◌<◌, sym, subst, arith, ◌∙◌}
use Rattle.rc_pikevm.specs.Near.{seen_from}
use Rattle.rc_pikevm.specs.Spread.{Seeks, starting}
use Rattle.rc_pikevm.proofs.SpreadStepLemmas.{starting_next, starting_over, setting_from}
use Rattle.rc_pikevm.proofs.StepLemmas.{gone_then}
use Rattle.rc_pikevm.proofs.greatest.advance.Goals as goal

pub returns-then-spot-clause-seeks : goal.returns-then-spot-clause-seeks
returns-then-spot-clause-seeks g c o x =
    let at : ℕ = c.args.spot.now.at in
    c.step.ensures.seeks (starting at c.args.spot.now.course.last) o (setting_from at at _ (omega arith))
    (subst (λ rs. Seeks (seen_from c.args.spot.now g.text) at c.step.new.growth.threads.items c.step.new.growth.entered.items rs c.step.new.best o)
    (sym (starting_next at c.args.spot.now.course.last (omega (arith, c.if-spot.true))))
    (c.spread.ensures.seeks (starting (at + 1) c.args.spot.now.course.last) o (setting_from at (at + 1) _ (omega arith)) x))

pub returns-else-spot-clause-seeks : goal.returns-else-spot-clause-seeks
returns-else-spot-clause-seeks g c o x =
    let at : ℕ = c.args.spot.now.at in
    let past : c.args.spot.now.course.last < at = omega (arith, c.if-spot.false) in
    c.step.ensures.seeks (starting at c.args.spot.now.course.last) o (setting_from at at _ (omega arith))
    (subst (λ rs. Seeks (seen_from c.args.spot.now g.text) at c.step.new.growth.threads.items c.step.new.growth.entered.items rs c.step.new.best o)
    (starting_over (at + 1) c.args.spot.now.course.last (omega (arith, past)) ∙ sym (starting_over at c.args.spot.now.course.last past)) x)

pub returns-then-spot-clause-stepped : goal.returns-then-spot-clause-stepped
returns-then-spot-clause-stepped g c = gone_then c.step.ensures.stepped c.spread.ensures.grown

pub returns-else-spot-clause-stepped : goal.returns-else-spot-clause-stepped
returns-else-spot-clause-stepped g c = c.step.ensures.stepped
