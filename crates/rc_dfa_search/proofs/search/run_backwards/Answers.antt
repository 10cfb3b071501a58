use Rattle.std.proofs.Common.{◌+◌, ◌-◌}
use Rattle.rc_text.specs.Text.{high}
use Rattle.rc_dfa_search.proofs.ToldLemmas.{run_met_down, run_fault_down}
use Rattle.rc_dfa_search.proofs.search.run_backwards.Goals as goal

pub returns-clause-met : goal.returns-clause-met
returns-clause-met g c hs terminator of =
    run_met_down (g.H.Halves.AreOf c.args.halves.now) c.args.aim hs terminator of c.args.input.now c.run_backwards.result c.told.result c.told.ensures c.requires.asked
    c.args.bounds.low c.args.bounds.high c.get_anchored.result c.is_early.result c.get_anchored.ensures c.is_early.ensures c.run_backwards.ensures.ended

pub returns-clause-fault : goal.returns-clause-fault
returns-clause-fault g c hs terminator of =
    run_fault_down (g.H.Halves.AreOf c.args.halves.now) c.args.aim hs terminator of c.args.input.now c.run_backwards.result c.told.result c.told.ensures c.requires.asked
    (g.H.Halves.GivesUp c.args.halves.now c.args.cache.now c.run_backwards.new.cache (high c.args.input.now - c.args.bounds.low + 2))
    c.args.bounds.low c.args.bounds.high c.get_anchored.result c.is_early.result c.get_anchored.ensures c.is_early.ensures c.run_backwards.ensures.ended
    c.requires.low c.requires.ordered c.requires.high c.run_backwards.ensures.gives_up
