use Rattle.std.proofs.Common.{false, refl}
use Rattle.rc_table_search.proofs.MemoLemmas.{is_none, joins_none, joins_same, not_found, not_none}
use Rattle.rc_table_search.proofs.again.joined.Goals as goal

pub returns-then-is_some : goal.returns-then-is_some
returns-then-is_some g c =
    joins_same _ (g.T.Transitions.view c.args.table.now false) c.args.noted c.args.rest
    (not_none c.args.rest.ended c.in-Found.found c.is_some.result c.in-Found.is c.is_some.ensures c.if-is_some.true)

pub returns-in-Idle : goal.returns-in-Idle
returns-in-Idle g c = joins_same _ (g.T.Transitions.view c.args.table.now false) c.args.noted c.args.rest (not_found c.args.rest.ended c.in-Idle.is)

pub returns-else-is_some : goal.returns-else-is_some
returns-else-is_some g c =
    joins_none _ (g.T.Transitions.view c.args.table.now false) c.args.noted c.args.rest _ c.told-ended.ensures refl
    (is_none c.args.rest.ended c.in-Found.found c.is_some.result c.in-Found.is c.is_some.ensures c.if-is_some.false)
