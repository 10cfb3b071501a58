use Rattle.std.proofs.Common.{arith}
use Rattle.rc_strategy.proofs.ReachLemmas.{by_length}
use Rattle.rc_strategy.proofs.engines.Engines.reach_of_length.Goals as goal

pub returns-clause-settled : goal.returns-clause-settled
returns-clause-settled g c =
    let e = c.args.self.now in
    by_length e.engine c.args.input.now e.spans e.lookahead c.args.longest c.saturating_add.result c.args.found e.bound e.looking c.requires.answer
    c.requires.leftmost c.requires.longest (omega (arith, c.content_fits.ensures))
    (omega (arith, c.saturating_add.ensures, c.saturating_add-end.ensures, c.start.ensures.value))

pub returns-clause-near : goal.returns-clause-near
returns-clause-near g c = omega (arith, c.saturating_add.ensures, c.saturating_add-end.ensures, c.start.ensures.value)
