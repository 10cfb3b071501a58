use Rattle.rc_strategy.proofs.PartialLemmas.{tables_rest}
use Rattle.rc_strategy.proofs.engines.Engines.idle_in.Goals as goal

pub returns-clause-told : goal.returns-clause-told
returns-clause-told g c =
    let e = c.args.self.now in
    tables_rest e.engine e.patterns c.args.input.now c.aim.result (g.H.Halves.AreOf c.args.halves.now) c.requires.own c.aim.ensures c.last_idle.result
    (λ hs same h. c.last_idle.ensures.idle hs e.engine.program.terminator h)
