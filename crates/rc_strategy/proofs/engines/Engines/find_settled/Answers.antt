use Rattle.rc_strategy.proofs.ReachLemmas.{past_reach}
use Rattle.rc_strategy.proofs.engines.Engines.find_settled.Goals as goal

pub returns-clause-past : goal.returns-clause-past
returns-clause-past g c =
    past_reach c.args.self.now.engine c.settle_by_engine-settled.new.input c.settle_by_engine-settled.result.found c.least_reach.result c.least_reach.ensures.settled
