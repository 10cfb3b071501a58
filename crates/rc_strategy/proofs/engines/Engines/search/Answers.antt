use Rattle.rc_pikevm_search.specs.Engine.{engine_search}
use Rattle.rc_strategy.proofs.QuestionLemmas.{reply_may}
use Rattle.rc_strategy.proofs.engines.Engines.search.Goals as goal

pub returns-clause-may : goal.returns-clause-may
returns-clause-may g c =
    let e = c.args.self.now.engine in
    reply_may c.question_for-question.result e.kind c.args.input.now.earliest (engine_search e c.args.input.now) c.ask.result c.question_for-question.ensures
    c.ask.ensures.reply
