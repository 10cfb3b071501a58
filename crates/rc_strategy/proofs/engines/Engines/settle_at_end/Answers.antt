use Rattle.rc_strategy.proofs.ReachLemmas.{at_end}
use Rattle.rc_strategy.proofs.engines.Engines.settle_at_end.Goals as goal

pub returns-clause-settled : goal.returns-clause-settled
returns-clause-settled g c =
    at_end c.args.self.now.engine c.args.input.now c.ask_dfas.new.input c.settled_at_end.result c.in_ok-found.found c.ask_dfas.ensures.keeps
    c.settled_at_end.ensures.found c.settled_at_end.ensures.far c.in_ok-found.ensures.reply
