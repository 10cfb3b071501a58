use Rattle.std.proofs.Common.{ap}
use Rattle.std.specs.Prelude.{is_none}
use Rattle.rc_strategy.proofs.CacheLemmas.{same_in}
use Rattle.rc_strategy.proofs.ListLemmas.{list_moved, moves_kept}
use Rattle.rc_strategy.proofs.SpanLemmas.{early_none}
use Rattle.rc_strategy.proofs.engines.Engines.find_along.Goals as goal

pub returns-in_default-clause-found : goal.returns-in_default-clause-found
returns-in_default-clause-found g c =
    let e = c.args.self.now in
    early_none e.engine e.spans c.args.input.now (is_none c.bounds.result) e.bound c.bounds.ensures.value (ap is_none c.in_default.is)

pub returns-in_default-clause-cache : goal.returns-in_default-clause-cache
returns-in_default-clause-cache g c = same_in c.args.self.now 0 c.args.cache.now c.requires.made

pub returns-in_default-clause-memo : goal.returns-in_default-clause-memo
returns-in_default-clause-memo g c =
    list_moved c.args.self.now c.args.input.now c.bounds.new.input c.args.memo.now
    (moves_kept c.args.input.now c.bounds.new.input c.bounds.ensures.keeps) c.requires.memo

pub find_kept-requires-clause-memo : goal.find_kept-requires-clause-memo
find_kept-requires-clause-memo g c =
    list_moved c.args.self.now c.args.input.now c.bounds.new.input c.args.memo.now
    (moves_kept c.args.input.now c.bounds.new.input c.bounds.ensures.keeps) c.requires.memo
