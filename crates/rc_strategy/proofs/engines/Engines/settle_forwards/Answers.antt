use Rattle.std.proofs.Common.{MatchOption, subst, sym}
use Rattle.std.specs.Bool.{⊤}
use Rattle.rc_program.specs.Places.{places_of}
use Rattle.rc_literals.specs.Guard.{IsGuard}
use Rattle.rc_dfa_search.specs.Firsts.{TellsOthers}
use Rattle.rc_dfa_search.specs.Reaches.{TellsReach}
use Rattle.rc_strategy.proofs.TableLemmas.{tables_settle}
use Rattle.rc_strategy.proofs.engines.Engines.settle_forwards.Goals as goal

pub find_settled_guarded-requires-clause-tells : goal.find_settled_guarded-requires-clause-tells
find_settled_guarded-requires-clause-tells g c = subst TellsReach (sym c.aim-aim.ensures) c.requires.tells

pub returns-in-Some-clause-settled : goal.returns-in-Some-clause-settled
returns-in-Some-clause-settled g c =
    let e = c.args.self.now in
    let p = e.engine.program in
    let guards = subst (λ o. MatchOption o ⊤ (IsGuard (places_of p.places.items) p.terminator)) c.in-Some.is c.guard.ensures.guard in
    tables_settle e.engine e.patterns c.args.input.now c.aim-aim.result c.requires.own c.aim-aim.ensures c.find_settled_guarded.result
    (λ hs same h. c.find_settled_guarded.ensures.settled hs p.terminator h (subst (λ ps. IsGuard ps p.terminator c.in-Some.guard) same guards))

pub returns-in_default-2-clause-settled : goal.returns-in_default-2-clause-settled
returns-in_default-2-clause-settled g c =
    let e = c.args.self.now in
    tables_settle e.engine e.patterns c.args.input.now c.aim-aim.result c.requires.own c.aim-aim.ensures c.find_settled_first-settled.result
    (λ hs same h. c.find_settled_first-settled.ensures.settled hs e.engine.program.terminator h
    (subst (λ ps. TellsOthers ps 0 e.tries.others.flags) same e.tried))
