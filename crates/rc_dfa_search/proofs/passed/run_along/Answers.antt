use Rattle.std.proofs.Common.{◌+◌, ◌-◌, false, arith}
use Rattle.rc_text.specs.Text.{high}
use Rattle.rc_dfa_search.proofs.ToldLemmas.{ended_so, run_met, run_fault}
use Rattle.rc_dfa_search.proofs.passed.run_along.Goals as goal

pub returns-clause-met : goal.returns-clause-met
returns-clause-met g c hs terminator of =
    run_met (g.H.Halves.AreOf c.args.halves.now) c.args.aim hs terminator of c.args.input.now c.run_again.result.ended c.told.result c.told.ensures c.requires.asked
    c.args.bounds.low c.get_anchored.result c.is_early.result c.get_anchored.ensures c.is_early.ensures (ended_so (g.H.Halves.AreOf c.args.halves.now) c.args.input.now c.get_anchored.result c.args.bounds.low c.is_early.result false c.run_again.result c.run_again.ensures.ended)

pub returns-clause-fault : goal.returns-clause-fault
returns-clause-fault g c hs terminator of =
    run_fault (g.H.Halves.AreOf c.args.halves.now) c.args.aim hs terminator of c.args.input.now c.run_again.result.ended c.told.result c.told.ensures c.requires.asked
    (g.H.Halves.GivesUp c.args.halves.now c.args.cache.now c.run_again.new.cache (high c.args.input.now - c.args.bounds.low + 2))
    c.args.bounds.low c.get_anchored.result c.is_early.result c.get_anchored.ensures c.is_early.ensures (ended_so (g.H.Halves.AreOf c.args.halves.now) c.args.input.now c.get_anchored.result c.args.bounds.low c.is_early.result false c.run_again.result c.run_again.ensures.ended)
    c.requires.low (omega (arith, c.requires.ordered, c.requires.high)) c.run_again.ensures.gives_up
