use Rattle.std.proofs.Common.{◌≡◌, ℕ, ◌+◌, None, is_none, sym, ap, subst, ◌∙◌, arith}
use Rattle.rc_pikevm.specs.Near.{size}
use Rattle.rc_pikevm.specs.Moves.{seen_by}
use Rattle.rc_pikevm.specs.Passing.{IsLined}
use Rattle.rc_pikevm.specs.Rules.{root_of}
use Rattle.rc_pikevm.specs.Underway.{HasCome}
use Rattle.rc_pikevm.specs.declared.rule.Rule.{Rule}
use Rattle.rc_pikevm.proofs.LineLemmas.{no_line}
use Rattle.rc_pikevm.proofs.PassingLemmas.{no_threads}
use Rattle.rc_pikevm.proofs.UnderwayLemmas.{skips_by, turns_by}
use Rattle.rc_pikevm.proofs.AloneLemmas.{none_yet}
use Rattle.rc_pikevm.proofs.alone.begin.Given.{Over}
use Rattle.rc_pikevm.proofs.alone.begin.Goals as goal
use Rattle.rc_pikevm.proofs.alone.begin.Goals.{After-seek-here, After-set_out_alone}

-- the starts are left out
skipped : (g : Over) (c : After-seek-here g) (rule : Rule) (from : ℕ) →
    HasCome rule c.args.course g.text c.args.scratch.now.next.threads.width from c.args.at c.args.scratch.now c.args.best →
    HasCome rule c.args.course g.text c.args.scratch.now.next.threads.width from c.seek-here.result.0 c.args.scratch.now c.args.best
skipped g c rule from p =
    skips_by p (omega (arith, c.len.ensures.value, c.if-len-gt0.false)) (ap is_none (none_yet c.args.best (sym c.is_some.ensures ∙ c.if-is_some.false)))
    c.seek-here.ensures.later (omega (arith, c.seek-here.ensures.within)) c.seek-here.ensures.none

pub returns-in_default-clause-come : goal.returns-in_default-clause-come
returns-in_default-clause-come g c rule from is p = skipped g (goal.at.returns-in_default-clause-come g c).After-seek-here rule from p

-- a thread has set out there
out : (g : Over) (c : After-set_out_alone g) (rule : Rule) (from : ℕ) → root_of rule ≡ c.args.root →
    HasCome rule c.args.course g.text c.args.scratch.now.next.threads.width from c.seek-here.result.0 c.args.scratch.now c.args.best →
    HasCome rule c.args.course g.text c.args.scratch.now.next.threads.width from (c.seek-here.result.0 + 1) c.set_out_alone.new.scratch c.args.best
out g c rule from is before =
    let width = c.args.scratch.now.next.threads.width in
    let here : ℕ = c.seek-here.result.0 in
    let none : c.args.best ≡ None = none_yet c.args.best (sym c.is_some.ensures ∙ c.if-is_some.false) in
    subst (λ b. HasCome rule c.args.course g.text width from (here + 1) c.set_out_alone.new.scratch b) (sym none)
    (turns_by (subst (λ b. HasCome rule c.args.course g.text width from here c.args.scratch.now b) none before)
    c.seek-here.ensures.within (c.set_out_alone.ensures.turns rule is) c.set_out_alone.ensures.lined tt
    (omega (arith, c.set_out_alone.ensures.few, c.requires.1.1.1.1.1.0)))

pub returns-clause-come : goal.returns-clause-come
returns-clause-come g c rule from is p =
    out g (goal.at.returns-clause-come g c).After-set_out_alone rule from is (skipped g (goal.at.returns-clause-come g c).After-seek-here rule from p)

-- no thread is under way where a thread sets out
lined-here : (g : Over) (c : After-seek-here g) → IsLined (seen_by c.args.course g.text) (size c.args.course) c.args.course.hi c.args.scratch.now.next.threads.width
    c.seek-here.result.0 c.args.scratch.now.insertions c.args.scratch.now.curr
lined-here g c =
    let lined = c.requires.1.1.1.1.1.1.1.1 in
    no_line (seen_by c.args.course g.text) (size c.args.course) c.args.course.hi c.args.scratch.now.next.threads.width c.args.scratch.now.insertions
    c.args.scratch.now.curr lined.width_is lined.room c.seek-here.result.0
    (no_threads c.args.scratch.now.curr.items (omega (arith, c.len.ensures.value, c.if-len-gt0.false)))

pub returns-in_default-clause-lined : goal.returns-in_default-clause-lined
returns-in_default-clause-lined g c = lined-here g (goal.at.returns-in_default-clause-lined g c).After-seek-here

pub returns-clause-within : goal.returns-clause-within
returns-clause-within g c =
    let reads = rw c.in-Some.is at c.seek-here.ensures.reads in
    omega (arith, reads.0, c.args.course.ordered)

pub returns-clause-around : goal.returns-clause-around
returns-clause-around g c = (rw c.in-Some.is at c.seek-here.ensures.reads).1
