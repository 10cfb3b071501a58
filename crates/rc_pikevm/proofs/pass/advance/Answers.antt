use Rattle.std.proofs.Common.{◌≡◌, ℕ, ◌+◌, List, ◌∷◌, sym, ap, subst, ◌∙◌, arith, Some, None, replicate}
use Rattle.rc_walks.specs.Walks.{Pair}
use Rattle.rc_pikevm.specs.Near.{seen_from}
use Rattle.rc_pikevm.specs.Trace.{Trace, trace}
use Rattle.rc_pikevm.specs.Passing.{CarriesTo, pairs, waiting_starts}
use Rattle.rc_pikevm.proofs.EntranceLemmas.{carries_in}
use Rattle.rc_pikevm.proofs.ExploredLemmas.{closed_carries}
use Rattle.rc_pikevm.specs.Steps.{HasStepped}
use Rattle.rc_pikevm.proofs.PassingLemmas.{no_threads}
use Rattle.rc_pikevm.proofs.StepLemmas.{gone_then}
use Rattle.rc_pikevm.proofs.StartLemmas.{waiting_next}
use Rattle.rc_pikevm.proofs.AloneLemmas.{quiet_start}
use Rattle.rc_pikevm.proofs.pass.advance.Goals as goal

pub set_out-requires : goal.set_out-requires
set_out-requires g c =
    let r = c.requires.1.0 in (
      c.requires.0,
      (
        record {
          inside = tt;
          no_threads = r.no_threads;
          no_places = r.no_places;
          capacity = r.capacity;
          room = omega (arith, r.room);
        },
        (c.requires.1.1.1.0, c.requires.1.1.1.1),
      ),
    )

pub returns-then-len-eq0-clause-stepped : goal.returns-then-len-eq0-clause-stepped
returns-then-len-eq0-clause-stepped g c =
    subst (λ ts. HasStepped c.args.spot.now g.text ts c.args.growth.now c.set_out.new.growth)
    (sym (no_threads c.args.curr.now.items (omega (arith, c.len.ensures.value, c.if-len-eq0.true)))) c.set_out.ensures.stepped

pub returns-in-Some-clause-stepped : goal.returns-in-Some-clause-stepped
returns-in-Some-clause-stepped g c = c.in-Some.ensures.stepped

pub returns-in-Some-clause-ended : goal.returns-in-Some-clause-ended
returns-in-Some-clause-ended g c = (c.in-Some.ensures.ended.0, λ x l h. c.in-Some.ensures.ended.1 x h)

pub returns-then-not-is_open-clause-stepped : goal.returns-then-not-is_open-clause-stepped
returns-then-not-is_open-clause-stepped g c = c.in_default.ensures.stepped

pub returns-in-Some-close-clause-stepped : goal.returns-in-Some-close-clause-stepped
returns-in-Some-close-clause-stepped g c = gone_then c.in_default.ensures.stepped c.in-Some-close.ensures.grown

pub returns-clause-stepped : goal.returns-clause-stepped
returns-clause-stepped g c = gone_then c.in_default.ensures.stepped c.in_default-close.ensures.grown

pub returns-in-Some-close-clause-carries : goal.returns-in-Some-close-clause-carries
returns-in-Some-close-clause-carries g c limit le free best o x =
    let at : ℕ = c.args.spot.now.at in
    let width : ℕ = c.args.growth.now.threads.width in
    let last : ℕ = c.args.spot.now.course.last in
    let rest : List (Trace × Pair) = waiting_starts c.args.is_open width (at + 1) last in
    let next = waiting_next c.args.is_open width at last c.if-not-is_open.false (omega (arith, c.if-spot.false)) in
    let slots : c.empty.new.slots.items ≡ replicate width None =
    c.empty.ensures.slots ∙ ap (λ n. replicate n None) (c.step.new.growth.wide.0 ∙ c.in_default.ensures.stepped.same_width) in
    c.in_default.ensures.carries limit le (waiting_starts c.args.is_open width at last) best o
    (subst (λ ts. CarriesTo limit (seen_from c.args.spot.now g.text) at c.step.new.growth.threads.items c.step.new.growth.entered.items ts best o) (sym next)
    (subst (λ l. CarriesTo limit (seen_from c.args.spot.now g.text) at c.step.new.growth.threads.items c.step.new.growth.entered.items
    ((trace at l, (0, at)) ∷ rest) best o) slots
    (carries_in (seen_from c.args.spot.now g.text) at limit le c.step.new.growth.threads.items c.step.new.growth.entered.items best o
    (trace at c.empty.new.slots.items) rest c.way_in-place.ensures.way
    (closed_carries (seen_from c.args.spot.now g.text) at at limit le best o rest (Some c.in-Some-close.number) c.in-Some-close.ensures.closes x))))

pub returns-clause-carries : goal.returns-clause-carries
returns-clause-carries g c limit le free best o x =
    let at : ℕ = c.args.spot.now.at in
    let width : ℕ = c.args.growth.now.threads.width in
    let last : ℕ = c.args.spot.now.course.last in
    let rest : List (Trace × Pair) = waiting_starts c.args.is_open width (at + 1) last in
    let next = waiting_next c.args.is_open width at last c.if-not-is_open.false (omega (arith, c.if-spot.false)) in
    let slots : c.empty.new.slots.items ≡ replicate width None =
    c.empty.ensures.slots ∙ ap (λ n. replicate n None) (c.step.new.growth.wide.0 ∙ c.in_default.ensures.stepped.same_width) in
    c.in_default.ensures.carries limit le (waiting_starts c.args.is_open width at last) best o
    (subst (λ ts. CarriesTo limit (seen_from c.args.spot.now g.text) at c.step.new.growth.threads.items c.step.new.growth.entered.items ts best o) (sym next)
    (subst (λ l. CarriesTo limit (seen_from c.args.spot.now g.text) at c.step.new.growth.threads.items c.step.new.growth.entered.items
    ((trace at l, (0, at)) ∷ rest) best o) slots
    (carries_in (seen_from c.args.spot.now g.text) at limit le c.step.new.growth.threads.items c.step.new.growth.entered.items best o
    (trace at c.empty.new.slots.items) rest c.way_in-place.ensures.way
    (closed_carries (seen_from c.args.spot.now g.text) at at limit le best o rest None c.in_default-close.ensures.closes x))))

pub returns-then-is_dead-clause-carries : goal.returns-then-is_dead-clause-carries
returns-then-is_dead-clause-carries g c limit le free best o x =
    let at : ℕ = c.args.spot.now.at in
    let width : ℕ = c.args.growth.now.threads.width in
    let last : ℕ = c.args.spot.now.course.last in
    c.in_default.ensures.carries limit le (waiting_starts c.args.is_open width at last) best o
    (quiet_start (seen_from c.args.spot.now g.text) at width last best o limit c.args.is_open c.step.new.growth.threads.items c.step.new.growth.entered.items
    (λ _ _. c.is_dead.ensures c.if-is_dead.true limit le (pairs at c.step.new.growth.entered.items)) x)

pub returns-then-is_dead-clause-stepped : goal.returns-then-is_dead-clause-stepped
returns-then-is_dead-clause-stepped g c = c.in_default.ensures.stepped
