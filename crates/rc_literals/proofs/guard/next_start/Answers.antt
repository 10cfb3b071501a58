use Rattle.std.proofs.Common.{◌∙◌, arith, sym, subst}
use Rattle.rc_needles.specs.Prefilters.{needles_of}
use Rattle.rc_literals.specs.Guard.{IsBehind, IsGuard}
use Rattle.rc_literals.proofs.GuardLemmas.{first_begins, first_held, no_needle_begins, no_needle_held}
use Rattle.rc_literals.proofs.guard.next_start.Goals as goal

pub returns-in_err-hit-in-Begins-clause-passed : goal.returns-in_err-hit-in-Begins-clause-passed
returns-in_err-hit-in-Begins-clause-passed g c = λ places terminator over guards.
    rw c.from_residual.ensures
    (no_needle_begins places terminator over c.args.input.now (needles_of c.in-Begins.prefilter.now) c.args.at c.args.end c.requires.end
    (sym c.find_from.ensures.value ∙ c.in_err-hit-in-Begins.was) (subst (IsGuard places terminator) c.in-Begins.is guards))

pub returns-in_err-hit-in-Holds-clause-passed : goal.returns-in_err-hit-in-Holds-clause-passed
returns-in_err-hit-in-Holds-clause-passed g c = λ places terminator over guards.
    rw c.from_residual-in_err-hit-in-Holds.ensures
    (no_needle_held places terminator over c.args.input.now (needles_of c.in-Holds.needs.now.needles) c.args.at c.args.end c.requires.end
    (sym c.find_from-in-Holds.ensures.value ∙ c.in_err-hit-in-Holds.was) c.in-Holds.needs.now.stops.table
    (subst (IsGuard places terminator) c.in-Holds.is guards))

pub returns-in_ok-hit-in-Begins-clause-passed : goal.returns-in_ok-hit-in-Begins-clause-passed
returns-in_ok-hit-in-Begins-clause-passed g c = λ places terminator over guards.
    first_begins places terminator over c.args.input.now (needles_of c.in-Begins.prefilter.now) c.args.at c.args.end c.requires.end
    c.in_ok-hit-in-Begins.hit (sym c.find_from.ensures.value ∙ c.in_ok-hit-in-Begins.was)
    (omega (arith, c.in_ok-hit-in-Begins.ensures.within.1, c.in_ok-hit-in-Begins.ensures.within.2)) (subst (IsGuard places terminator) c.in-Begins.is guards)

pub returns-in_ok-hit-in-Holds-clause-passed : goal.returns-in_ok-hit-in-Holds-clause-passed
returns-in_ok-hit-in-Holds-clause-passed g c = λ places terminator over guards.
    first_held places terminator over c.args.input.now (needles_of c.in-Holds.needs.now.needles) c.args.at c.args.end c.requires.end
    c.in_ok-hit-in-Holds.hit (sym c.find_from-in-Holds.ensures.value ∙ c.in_ok-hit-in-Holds.was)
    (omega (arith, c.in_ok-hit-in-Holds.ensures.within.1, c.in_ok-hit-in-Holds.ensures.within.2)) c.in-Holds.needs.now.stops.table
    c.behind_stop-from.result (subst (IsGuard places terminator) c.in-Holds.is guards)
    (subst (λ content. IsBehind c.in-Holds.needs.now.stops.table content c.args.at c.in_ok-hit-in-Holds.hit.start c.behind_stop-from.result)
    c.find_from-in-Holds.ensures.keeps.content c.behind_stop-from.ensures.behind) c.behind_stop-from.ensures.high
