use Rattle.std.proofs.Common.{◌≡◌, ℕ, ◌+◌, ◌<◌, List, ◌∷◌, sym, ap, subst, ◌∙◌, arith, true, true≢false, None, replicate}
use Rattle.rc_walks.specs.Walks.{Pair}
use Rattle.rc_pikevm.specs.Near.{seen_from}
use Rattle.rc_pikevm.specs.Trace.{Trace, trace, sets_out}
use Rattle.rc_pikevm.specs.Passing.{pairs}
use Rattle.rc_pikevm.specs.Races.{Races, starts_to}
use Rattle.rc_pikevm.proofs.RaceAloneLemmas.{raced_quiet}
use Rattle.rc_pikevm.proofs.RaceMoveLemmas.{raced_drops, raced_way_in}
use Rattle.rc_pikevm.proofs.RacePassLemmas.{starts_next, starts_over}
use Rattle.rc_pikevm.proofs.StepLemmas.{gone_then}
use Rattle.rc_pikevm.proofs.longest.advance.Goals as goal

pub returns-then-spot-clause-races : goal.returns-then-spot-clause-races
returns-then-spot-clause-races g c all x =
    let at : ℕ = c.args.spot.now.at in
    let width : ℕ = c.args.growth.now.threads.width in
    let last : ℕ = c.args.spot.now.course.last in
    let past : last < at = omega (arith, c.if-spot.true) in
    subst (λ ts. Races (seen_from c.args.spot.now g.text) all at c.step.new.growth.threads.items c.step.new.growth.entered.items ts c.step.new.best c.step.new.found)
    (starts_over width at last past ∙ sym (starts_over width (at + 1) last (omega (arith, past))))
    (c.step.ensures.races all (starts_to width at last) x)

pub returns-then-spot-clause-stepped : goal.returns-then-spot-clause-stepped
returns-then-spot-clause-stepped g c = c.step.ensures.stepped

pub returns-then-not-is_sought-clause-races : goal.returns-then-not-is_sought-clause-races
returns-then-not-is_sought-clause-races g c all x =
    let at : ℕ = c.args.spot.now.at in
    let width : ℕ = c.args.growth.now.threads.width in
    let last : ℕ = c.args.spot.now.course.last in
    raced_drops (seen_from c.args.spot.now g.text) all at c.step.new.growth.threads.items c.step.new.growth.entered.items c.step.new.best c.step.new.found
    (sets_out width at) (starts_to width (at + 1) last) c.if-not-is_sought.ensures
    (subst (λ ts. Races (seen_from c.args.spot.now g.text) all at c.step.new.growth.threads.items c.step.new.growth.entered.items ts c.step.new.best c.step.new.found)
    (starts_next width at last (omega (arith, c.if-spot.false)))
    (c.step.ensures.races all (starts_to width at last) x))

pub returns-then-not-is_sought-clause-stepped : goal.returns-then-not-is_sought-clause-stepped
returns-then-not-is_sought-clause-stepped g c = c.step.ensures.stepped

pub returns-clause-races : goal.returns-clause-races
returns-clause-races g c all x =
    let at : ℕ = c.args.spot.now.at in
    let width : ℕ = c.args.growth.now.threads.width in
    let last : ℕ = c.args.spot.now.course.last in
    let rest : List (Trace × Pair) = starts_to width (at + 1) last in
    let slots : c.empty.new.slots.items ≡ replicate width None =
    c.empty.ensures.slots ∙ ap (λ n. replicate n None) (c.step.new.growth.wide.0 ∙ c.step.ensures.stepped.same_width) in
    c.spread.ensures.races all rest
    (subst (λ l. Races (seen_from c.args.spot.now g.text) all at c.step.new.growth.threads.items c.step.new.growth.entered.items
    ((trace at l, (c.way_in-place.result, at)) ∷ rest) c.step.new.best c.step.new.found) (sym slots)
    (raced_way_in (seen_from c.args.spot.now g.text) all at c.step.new.growth.threads.items c.step.new.growth.entered.items c.step.new.best c.step.new.found
    (trace at (replicate width None)) rest c.way_in-place.ensures.way c.if-not-is_sought.ensures
    (subst (λ ts. Races (seen_from c.args.spot.now g.text) all at c.step.new.growth.threads.items c.step.new.growth.entered.items ts c.step.new.best c.step.new.found)
    (starts_next width at last (omega (arith, c.if-spot.false)))
    (c.step.ensures.races all (starts_to width at last) x))))

pub returns-clause-stepped : goal.returns-clause-stepped
returns-clause-stepped g c = gone_then c.step.ensures.stepped c.spread.ensures.grown

pub returns-then-is_dead-clause-races : goal.returns-then-is_dead-clause-races
returns-then-is_dead-clause-races g c all x =
    let at : ℕ = c.args.spot.now.at in
    let width : ℕ = c.args.growth.now.threads.width in
    let last : ℕ = c.args.spot.now.course.last in
    raced_quiet (seen_from c.args.spot.now g.text) all at c.step.new.growth.threads.items c.step.new.growth.entered.items c.step.new.best c.step.new.found
    width last true (λ e. absurd (true≢false e)) (λ _ _. c.is_dead.ensures c.if-is_dead.true None tt (pairs at c.step.new.growth.entered.items))
    (c.step.ensures.races all (starts_to width at last) x)

pub returns-then-is_dead-clause-stepped : goal.returns-then-is_dead-clause-stepped
returns-then-is_dead-clause-stepped g c = c.step.ensures.stepped
