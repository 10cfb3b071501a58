use Rattle.std.proofs.Common.{◌≡◌, ℕ, ◌+◌, List, [], ◌∷◌, sym, ap, subst, ◌∙◌, arith, Some, None, replicate}
use Rattle.rc_walks.specs.Walks.{Pair}
use Rattle.rc_pikevm.specs.Near.{seen_from}
use Rattle.rc_pikevm.specs.Sights.{Sight}
use Rattle.rc_pikevm.specs.Trace.{Trace, trace}
use Rattle.rc_pikevm.specs.Passing.{CarriesTo, waiting_starts}
use Rattle.rc_pikevm.specs.Steps.{HasStepped}
use Rattle.rc_pikevm.proofs.EntranceLemmas.{carries_in}
use Rattle.rc_pikevm.proofs.ExploredLemmas.{closed_carries}
use Rattle.rc_pikevm.proofs.RootLemmas.{carries_root_to}
use Rattle.rc_pikevm.proofs.StartLemmas.{waiting_next}
use Rattle.rc_pikevm.proofs.StepLemmas.{gone_begins, gone_then}
use Rattle.rc_pikevm.proofs.pass.set_out.Given.{Over}
use Rattle.rc_pikevm.proofs.pass.set_out.Goals as goal
use Rattle.rc_pikevm.proofs.pass.set_out.Goals.{Start}

begun : (g : Over) (c : Start g) → HasStepped c.args.spot.now g.text [] c.args.growth.now c.args.growth.now
begun g c = let r = c.requires.1.0 in gone_begins r.no_threads r.no_places r.capacity (omega (arith, r.room))

pub returns-then-not-is_open-clause-stepped : goal.returns-then-not-is_open-clause-stepped
returns-then-not-is_open-clause-stepped g c = begun g (goal.at.returns-then-not-is_open-clause-stepped g c).Start

pub returns-in-Some-clause-stepped : goal.returns-in-Some-clause-stepped
returns-in-Some-clause-stepped g c = gone_then (begun g (goal.at.returns-in-Some-clause-stepped g c).Start) c.in-Some.ensures.grown

pub returns-clause-stepped : goal.returns-clause-stepped
returns-clause-stepped g c = gone_then (begun g (goal.at.returns-clause-stepped g c).Start) c.in_default.ensures.grown

pub returns-in-Some-clause-carries : goal.returns-in-Some-clause-carries
returns-in-Some-clause-carries g c limit le free best o x =
    let s : Sight = seen_from c.args.spot.now g.text in
    let at : ℕ = c.args.spot.now.at in
    let width : ℕ = c.args.growth.now.threads.width in
    let last : ℕ = c.args.spot.now.course.last in
    let rest : List (Trace × Pair) = waiting_starts c.args.is_open width (at + 1) last in
    let next = waiting_next c.args.is_open width at last c.if-not-is_open.false (omega (arith, c.if-spot.false)) in
    let slots : c.empty.new.slots.items ≡ replicate width None = c.empty.ensures.slots ∙ ap (λ n. replicate n None) c.args.growth.now.wide.0 in
    subst (λ ts. CarriesTo limit s at [] [] ts best o) (sym next)
    (carries_root_to limit s c.args.root c.requires.1.1.1 free (trace at (replicate width None)) at rest best o c.requires.0.near.within
    (subst (λ l. CarriesTo limit s at [] [] ((trace at l, (c.args.root, at)) ∷ rest) best o) slots
    (rw (c.requires.1.0.no_threads, c.requires.1.0.no_places) at (carries_in s at limit le c.args.growth.now.threads.items c.args.growth.now.entered.items best o (trace at c.empty.new.slots.items) rest c.way_in-place.ensures.way
    (closed_carries s at at limit le best o rest (Some c.in-Some.number) c.in-Some.ensures.closes x)))))

pub returns-clause-carries : goal.returns-clause-carries
returns-clause-carries g c limit le free best o x =
    let s : Sight = seen_from c.args.spot.now g.text in
    let at : ℕ = c.args.spot.now.at in
    let width : ℕ = c.args.growth.now.threads.width in
    let last : ℕ = c.args.spot.now.course.last in
    let rest : List (Trace × Pair) = waiting_starts c.args.is_open width (at + 1) last in
    let next = waiting_next c.args.is_open width at last c.if-not-is_open.false (omega (arith, c.if-spot.false)) in
    let slots : c.empty.new.slots.items ≡ replicate width None = c.empty.ensures.slots ∙ ap (λ n. replicate n None) c.args.growth.now.wide.0 in
    subst (λ ts. CarriesTo limit s at [] [] ts best o) (sym next)
    (carries_root_to limit s c.args.root c.requires.1.1.1 free (trace at (replicate width None)) at rest best o c.requires.0.near.within
    (subst (λ l. CarriesTo limit s at [] [] ((trace at l, (c.args.root, at)) ∷ rest) best o) slots
    (rw (c.requires.1.0.no_threads, c.requires.1.0.no_places) at (carries_in s at limit le c.args.growth.now.threads.items c.args.growth.now.entered.items best o (trace at c.empty.new.slots.items) rest c.way_in-place.ensures.way
    (closed_carries s at at limit le best o rest None c.in_default.ensures.closes x)))))
