use Rattle.std.proofs.Common.{ℕ, ◌+◌, ◌<◌, ◌↔◌, [], ◌++◌, map, sym, subst, arith, ◌∙◌}
use Rattle.rc_pikevm.specs.Near.{seen_from}
use Rattle.rc_pikevm.specs.Marking.{Owed, entering, going}
use Rattle.rc_pikevm.proofs.MarkMoveLemmas.{same_then, low_in}
use Rattle.rc_pikevm.proofs.MarkStepLemmas.{entering_next, entering_over, sets_out_none}
use Rattle.rc_pikevm.proofs.StepLemmas.{gone_then}
use Rattle.rc_pikevm.proofs.which.advance.Goals as goal

pub returns-then-spot-clause-same : goal.returns-then-spot-clause-same
returns-then-spot-clause-same g c p low =
    let at : ℕ = c.args.spot.now.at in
    let s = seen_from c.args.spot.now g.text in
    same_then (c.step.ensures.same (entering at c.args.spot.now.course.last) p low)
    (subst (λ ns. Owed s at c.step.new.growth.threads.items c.step.new.growth.entered.items ns c.step.new.set p
    ↔ Owed s at c.set_out.new.growth.threads.items c.set_out.new.growth.entered.items (entering (at + 1) c.args.spot.now.course.last) c.set_out.new.set p)
    (sym (entering_next at c.args.spot.now.course.last (omega (arith, c.if-spot.true))))
    (c.set_out.ensures.same (entering (at + 1) c.args.spot.now.course.last) p (low_in p c.args.set.now c.step.new.set c.step.ensures.long low)))

pub returns-else-spot-clause-same : goal.returns-else-spot-clause-same
returns-else-spot-clause-same g c p low =
    let at : ℕ = c.args.spot.now.at in
    let past : c.args.spot.now.course.last < at = omega (arith, c.if-spot.false) in
    let s = seen_from c.args.spot.now g.text in
    subst (λ ns. Owed s at [] [] (map going c.args.curr.now.items ++ entering at c.args.spot.now.course.last) c.args.set.now p
    ↔ Owed s at c.step.new.growth.threads.items c.step.new.growth.entered.items ns c.step.new.set p)
    (entering_over at c.args.spot.now.course.last past ∙ sym (entering_over (at + 1) c.args.spot.now.course.last (omega (arith, past))))
    (c.step.ensures.same (entering at c.args.spot.now.course.last) p low)

pub returns-then-not-may_begin-clause-same : goal.returns-then-not-may_begin-clause-same
returns-then-not-may_begin-clause-same g c p low =
    let at : ℕ = c.args.spot.now.at in
    let last : ℕ = c.args.spot.now.course.last in
    same_then (c.step.ensures.same (entering at last) p low)
    (sets_out_none (seen_from c.args.spot.now g.text) p at last c.step.new.growth.threads.items c.step.new.growth.entered.items c.step.new.set
    (c.requires.1.1.1.0 c.if-not-may_begin.true))

pub returns-then-not-may_begin-clause-stepped : goal.returns-then-not-may_begin-clause-stepped
returns-then-not-may_begin-clause-stepped g c = c.step.ensures.stepped

pub returns-then-spot-clause-stepped : goal.returns-then-spot-clause-stepped
returns-then-spot-clause-stepped g c = gone_then c.step.ensures.stepped c.set_out.ensures.grown

pub returns-else-spot-clause-stepped : goal.returns-else-spot-clause-stepped
returns-else-spot-clause-stepped g c = c.step.ensures.stepped
