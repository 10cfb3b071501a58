use Rattle.std.proofs.Common.{rules}
use Rattle.rc_pikevm_search.specs.Moved.{IsMoved}
use Rattle.rc_strategy.proofs.ListLemmas.{list_moved}
use Rattle.rc_strategy.proofs.engines.Engines.next_along.Goals as goal

pub find_along-requires-2-clause-memo : goal.find_along-requires-2-clause-memo
find_along-requires-2-clause-memo g c =
    let moves : IsMoved c.find_along.new.input c.advance_start.new.input = search rules in
    list_moved c.args.self.now c.find_along.new.input c.advance_start.new.input c.find_along.new.memo moves c.find_along.ensures.memo
