use Rattle.rc_pikevm_search.specs.Engine.{engine_search}
use Rattle.rc_reach.specs.Partial.{IsPartial, from_place}
use Rattle.rc_strategy.proofs.QuestionLemmas.{ok_then}
use Rattle.rc_strategy.proofs.engines.Engines.idle_by_tables.Goals as goal

pub returns-in-Some-clause-told : goal.returns-in-Some-clause-told
returns-in-Some-clause-told g c =
    let e = c.args.self.now.engine in
    ok_then c.idle_in-in-MetStates.result c.ok-in-MetStates.result (λ k. IsPartial e.kind (engine_search e c.args.input.now) (from_place k))
    c.ok-in-MetStates.ensures.value c.idle_in-in-MetStates.ensures.told
