use Rattle.std.proofs.Common.{None, ap}
use Rattle.std.specs.Prelude.{is_none}
use Rattle.rc_pikevm_search.specs.Engine.{engine_search}
use Rattle.rc_strategy.proofs.CacheLemmas.{same_in}
use Rattle.rc_strategy.proofs.QuestionLemmas.{match_replies}
use Rattle.rc_strategy.proofs.SpanLemmas.{early_none}
use Rattle.rc_strategy.proofs.engines.Engines.ask.Goals as goal

pub returns-in_default-clause-reply : goal.returns-in_default-clause-reply
returns-in_default-clause-reply g c =
    let e = c.args.self.now in
    match_replies c.args.question e.engine.kind (engine_search e.engine c.args.input.now) None
    (early_none e.engine e.spans c.args.input.now (is_none c.bounds.result) e.bound c.bounds.ensures.value (ap is_none c.in_default.is))

pub returns-in_default-clause-cache : goal.returns-in_default-clause-cache
returns-in_default-clause-cache g c = same_in c.args.self.now 0 c.args.cache.now c.requires.made
