use Rattle.rc_strategy.proofs.PatternLemmas.{input_adds}
use Rattle.rc_strategy.proofs.which.mark_from.Goals as goal

pub returns-clause-adds : goal.returns-clause-adds
returns-clause-adds g c =
    let k = c.set_start.ensures in
    input_adds c.args.engines.now.engine c.args.input.now c.set_start.new.self c.args.start c.args.set.now c.mark.new.set c.requires.start k.keeps k.start k.end
    k.slice c.mark.ensures.adds
