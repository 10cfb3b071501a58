use Rattle.std.proofs.Common.{◌∙◌, ◌<◌, IfSome, subst}
use Rattle.rc_program.specs.Answer.{Search}
use Rattle.rc_strategy.specs.Starts.{AddsTo}
use Rattle.rc_strategy.proofs.PatternLemmas.{input_from}
use Rattle.rc_strategy.proofs.StartLemmas.{low_from}
use Rattle.rc_strategy.proofs.engines.Engines.mark_next.Goals as goal

pub mark_first-next-requires-clause-free : goal.mark_first-next-requires-clause-free
mark_first-next-requires-clause-free g c = c.set_start.ensures.keeps.anchored ∙ c.requires.free

pub returns-clause-adds : goal.returns-clause-adds
returns-clause-adds g c =
    let k = c.set_start.ensures in
    subst (λ (q : Search). AddsTo q c.mark_first-next.result c.args.set.now c.mark_first-next.new.set)
    (input_from c.args.self.now.engine c.args.input.now c.set_start.new.self c.args.at c.requires.from k.keeps k.start k.end k.slice) c.mark_first-next.ensures.adds

pub returns-clause-ahead : goal.returns-clause-ahead
returns-clause-ahead g c =
    let k = c.set_start.ensures in
    subst (λ low. IfSome c.mark_first-next.result (λ next. low < next))
    (low_from c.args.input.now c.set_start.new.self c.args.at c.requires.from k.start k.slice) c.mark_first-next.ensures.ahead
