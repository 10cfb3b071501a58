use Rattle.std.proofs.Common.{MatchOption, subst}
use Rattle.std.specs.Bool.{⊤}
use Rattle.rc_program.specs.Places.{places_of}
use Rattle.rc_literals.specs.Guard.{IsGuard}
use Rattle.rc_strategy.proofs.QuestionLemmas.{end_replies, end_within}
use Rattle.rc_strategy.proofs.engines.Engines.ask_forwards.Goals as goal

pub returns-clause-reply : goal.returns-clause-reply
returns-clause-reply g c =
    let e = c.args.self.now in
    end_replies e.engine e.patterns c.args.input.now c.requires.own c.args.question c.aim_for-aim.result c.aim_for-aim.ensures c.in_ok-half.half c.at_end-2.result
    c.at_end-2.ensures c.requires.forwards (λ hs same h. c.in_ok-half.ensures.found hs e.engine.program.terminator h)

pub returns-clause-within : goal.returns-clause-within
returns-clause-within g c = end_within c.args.input.now c.in_ok-half.half c.at_end-2.result c.at_end-2.ensures c.in_ok-half.ensures.within

pub returns-in-Some-clause-reply : goal.returns-in-Some-clause-reply
returns-in-Some-clause-reply g c =
    let e = c.args.self.now in
    let p = e.engine.program in
    let guards = subst (λ o. MatchOption o ⊤ (IsGuard (places_of p.places.items) p.terminator)) c.in-Some.is c.requires.guards in
    end_replies e.engine e.patterns c.args.input.now c.requires.own c.args.question c.aim_for-aim.result c.aim_for-aim.ensures c.in_ok-guarded.guarded c.at_end.result
    c.at_end.ensures c.requires.forwards
    (λ hs same h. c.in_ok-guarded.ensures.found hs p.terminator h (subst (λ ps. IsGuard ps p.terminator c.in-Some.guard) same guards))

pub returns-in-Some-clause-within : goal.returns-in-Some-clause-within
returns-in-Some-clause-within g c = end_within c.args.input.now c.in_ok-guarded.guarded c.at_end.result c.at_end.ensures c.in_ok-guarded.ensures.within
