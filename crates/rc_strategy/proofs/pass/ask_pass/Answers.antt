use Rattle.rc_pikevm_search.specs.Engine.{engine_search}
use Rattle.rc_strategy.proofs.QuestionLemmas.{match_replies}
use Rattle.rc_strategy.proofs.pass.ask_pass.Goals as goal

pub returns-in-Match-clause-reply : goal.returns-in-Match-clause-reply
returns-in-Match-clause-reply g c =
    let e = c.args.engine.now in
    match_replies c.args.question e.kind (engine_search e c.args.input.now) c.find.result c.find.ensures.found
