use Rattle.rc_program.specs.Places.{places_of}
use Rattle.rc_strategy.proofs.FrontLemmas.{own_ways}
use Rattle.rc_strategy.proofs.StartLemmas.{at_adds}
use Rattle.rc_strategy.proofs.starts.mark_at.Goals as goal

pub which_patterns-requires-clause-own : goal.which_patterns-requires-clause-own
which_patterns-requires-clause-own g c = own_ways (places_of c.args.engines.now.engine.program.places.items) c.args.engines.now.programmed

pub returns-clause-adds : goal.returns-clause-adds
returns-clause-adds g c =
    let k = c.set_start.ensures in
    at_adds c.args.engines.now.engine c.args.input.now c.set_start.new.self c.set_anchored.new.self c.args.start c.args.set.now c.which_patterns.new.set
    c.requires.free c.requires.start k.keeps k.start k.end k.slice c.set_anchored.ensures c.which_patterns.ensures.adds
