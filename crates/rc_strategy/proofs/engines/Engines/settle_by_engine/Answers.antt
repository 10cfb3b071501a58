use Rattle.std.proofs.Common.{None, ap}
use Rattle.std.specs.Prelude.{is_none}
use Rattle.rc_strategy.proofs.CacheLemmas.{same_in}
use Rattle.rc_strategy.proofs.ReachLemmas.{at_end}
use Rattle.rc_strategy.proofs.SpanLemmas.{early_none}
use Rattle.rc_strategy.proofs.engines.Engines.settle_by_engine.Goals as goal

pub returns-in_default-clause-settled : goal.returns-in_default-clause-settled
returns-in_default-clause-settled g c =
    let e = c.args.self.now in
    at_end e.engine c.args.input.now c.bounds.new.input c.settled_at_end.result None c.bounds.ensures.keeps
    c.settled_at_end.ensures.found c.settled_at_end.ensures.far
    (early_none e.engine e.spans c.args.input.now (is_none c.bounds.result) e.bound c.bounds.ensures.value (ap is_none c.in_default.is))

pub returns-in_default-clause-cache : goal.returns-in_default-clause-cache
returns-in_default-clause-cache g c = same_in c.args.self.now 0 c.args.cache.now c.requires.made
