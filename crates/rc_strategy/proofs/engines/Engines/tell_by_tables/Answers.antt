use Rattle.rc_pikevm_search.specs.Engine.{engine_search}
use Rattle.rc_reach.specs.Partial.{IsPartial, from_place}
use Rattle.rc_dfa_search.specs.Reaches.{IsAnswerBelow}
use Rattle.rc_strategy.proofs.QuestionLemmas.{ok_then}
use Rattle.rc_strategy.proofs.engines.Engines.tell_by_tables.Goals as goal

pub returns-in-Some-clause-settled : goal.returns-in-Some-clause-settled
returns-in-Some-clause-settled g c =
    let e = c.args.self.now.engine in
    ok_then c.tell_in-in-MetStates.result c.ok-in-MetStates.result (λ o. IsAnswerBelow e.kind (engine_search e c.args.input.now) o.settled.reach o.settled.found)
    c.ok-in-MetStates.ensures.value c.tell_in-in-MetStates.ensures.settled

pub returns-in-Some-clause-told : goal.returns-in-Some-clause-told
returns-in-Some-clause-told g c =
    let e = c.args.self.now.engine in
    ok_then c.tell_in-in-MetStates.result c.ok-in-MetStates.result (λ o. IsPartial e.kind (engine_search e c.args.input.now) (from_place o.from))
    c.ok-in-MetStates.ensures.value c.tell_in-in-MetStates.ensures.told
