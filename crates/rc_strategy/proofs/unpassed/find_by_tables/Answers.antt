use Rattle.rc_strategy.proofs.HeldLemmas.{keeps_held, unpassed_held}
use Rattle.rc_strategy.proofs.TableLemmas.{tables_tell_unpassed}
use Rattle.rc_strategy.proofs.unpassed.find_by_tables.Goals as goal

pub returns-clause-found : goal.returns-clause-found
returns-clause-found g c =
    let e = c.args.engines.now in
    unpassed_held e.engine e.spans c.args.input.now c.hold.new.input c.find-found.result e.bound c.hold.ensures
    (tables_tell_unpassed e.engine e.patterns c.hold.new.input c.aim.result c.requires.own c.aim.ensures c.find-found.result
    (λ hs same h. c.find-found.ensures.found hs e.engine.program.terminator h))

pub returns-clause-keeps : goal.returns-clause-keeps
returns-clause-keeps g c =
    keeps_held c.args.engines.now.spans c.args.input.now c.hold.new.input c.find-found.new.input c.set_anchored.new.self c.get_anchored-anchored.result
    c.hold.ensures c.find-found.ensures.keeps c.set_anchored.ensures c.get_anchored-anchored.ensures
