use Rattle.std.proofs.Common.{◌≡◌, subst}
use Rattle.rc_program.specs.Places.{places_of}
use Rattle.rc_needles.specs.Needles.{longest}
use Rattle.rc_literals.specs.Guard.{IsGuard, guard_needles}
use Rattle.rc_strategy.specs.Routes.{longest_for}
use Rattle.rc_strategy.proofs.engines.Engines.tell_partly.Goals as goal

pub tell_by_tables-requires-clause-guards : goal.tell_by_tables-requires-clause-guards
tell_by_tables-requires-clause-guards g c =
    let p = c.args.self.now.engine.program in
    subst (IsGuard (places_of p.places.items) p.terminator) c.in-Some-Begins.field-0-is c.in-Some-Begins.ensures.guard

pub tell_by_tables-requires-clause-longest : goal.tell_by_tables-requires-clause-longest
tell_by_tables-requires-clause-longest g c =
    subst (λ k. longest_for c.args.self.now.longest k ≡ longest (guard_needles k)) c.in-Some-Begins.field-0-is c.in-Some-Begins.ensures.longest
