use Rattle.rc_program.specs.Places.{places_of}
use Rattle.rc_strategy.proofs.FrontLemmas.{own_ways}
use Rattle.rc_strategy.proofs.HeldLemmas.{adds_held, keeps_held}
use Rattle.rc_strategy.proofs.which.mark.Goals as goal

pub which_patterns-requires-clause-own : goal.which_patterns-requires-clause-own
which_patterns-requires-clause-own g c = own_ways (places_of c.args.engines.now.engine.program.places.items) c.args.engines.now.programmed

pub returns-clause-adds : goal.returns-clause-adds
returns-clause-adds g c =
    let e = c.args.engines.now in
    adds_held e.engine e.spans c.args.input.now c.hold.new.input c.args.set.now c.which_patterns.new.set e.bound c.hold.ensures c.which_patterns.ensures.adds

pub returns-clause-keeps : goal.returns-clause-keeps
returns-clause-keeps g c =
    keeps_held c.args.engines.now.spans c.args.input.now c.hold.new.input c.which_patterns.new.input c.set_anchored.new.self c.get_anchored-anchored.result
    c.hold.ensures c.which_patterns.ensures.keeps c.set_anchored.ensures c.get_anchored-anchored.ensures
