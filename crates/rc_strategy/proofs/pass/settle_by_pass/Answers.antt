use Rattle.rc_strategy.proofs.ReachLemmas.{at_end, below, past_end, past_reach}
use Rattle.rc_strategy.proofs.pass.settle_by_pass.Goals as goal

pub returns-clause-settled : goal.returns-clause-settled
returns-clause-settled g c =
    at_end c.args.engine.now c.args.input.now c.find-found.new.input c.settled_at_end.result c.find-found.result c.find-found.ensures.keeps
    c.settled_at_end.ensures.found c.settled_at_end.ensures.far c.find-found.ensures.found

pub returns-clause-past : goal.returns-clause-past
returns-clause-past g c =
    past_end c.args.input.now c.find-found.new.input c.settled_at_end.result c.find-found.result c.find-found.ensures.keeps
    c.settled_at_end.ensures.found c.settled_at_end.ensures.far c.find-found.ensures.within

pub returns-then-is_none-clause-past : goal.returns-then-is_none-clause-past
returns-then-is_none-clause-past g c =
    let told = c.find_reach-told.result in
    past_reach c.args.engine.now c.args.input.now told.found told.reach
    (below c.args.engine.now c.args.input.now told.found told.reach c.find_reach-told.ensures.found c.find_reach-told.ensures.settled)
