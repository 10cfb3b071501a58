use Rattle.std.proofs.Common.{false, true, ◌+◌, ◌∙◌, sym, arith}
use Rattle.rc_table_search.proofs.BesideLemmas.{byte_alone, byte_begins, symbol_needed}
use Rattle.rc_table_search.proofs.SpanLemmas.{next_here}
use Rattle.rc_table_search.proofs.inside.start_inside.Goals as goal

pub start_by_symbol-requires-clause-reads : goal.start_by_symbol-requires-clause-reads
start_by_symbol-requires-clause-reads g c =
    (symbol_needed (g.T.Transitions.view c.args.table.now false).alphabet _ (sym c.needs_symbol.ensures ∙ c.if-needs_symbol.true)).0

pub start_by_symbol-requires-clause-past : goal.start_by_symbol-requires-clause-past
start_by_symbol-requires-clause-past g c =
    (symbol_needed (g.T.Transitions.view c.args.table.now false).alphabet _ (sym c.needs_symbol.ensures ∙ c.if-needs_symbol.true)).1

pub returns-clause-cell : goal.returns-clause-cell
returns-clause-cell g c = λ seen bound start piece within.
    let v = g.T.Transitions.view c.args.table.now false in
    let place = c.args.place in
    let next = next_here true seen start start place c.args.piece.now piece.low piece.is (omega arith) c.requires.place.1 c.requires.place.0 in
    byte_begins _ v (g.met.T.Transitions.lawful c.args.table.now false) false seen c.start.new.cache c.args.anchored (start + place) c.in-Ok.cell _
    (byte_alone _ v (g.met.T.Transitions.lawful c.args.table.now false) false seen _ (sym c.needs_symbol.ensures ∙ c.if-needs_symbol.false)) (sym (next.beside 0))
    c.in-Ok.ensures.cell
