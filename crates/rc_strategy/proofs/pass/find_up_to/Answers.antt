use Rattle.rc_strategy.proofs.EarlyLemmas.{found_up_to}
use Rattle.rc_strategy.proofs.pass.find_up_to.Goals as goal

pub returns-clause-spelled : goal.returns-clause-spelled
returns-clause-spelled g c =
    let k = c.set_end.ensures in
    found_up_to c.args.engine.now c.args.input.now c.set_end.new.self c.args.end c.find-found.result c.requires.within.1 k.keeps k.start k.end k.slice
    c.find-found.ensures.found
