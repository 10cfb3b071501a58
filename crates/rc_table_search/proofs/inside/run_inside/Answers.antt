use Rattle.std.proofs.Common.{None, false, ◌≡◌, ◌+◌, ◌<◌, ◌∙◌, length, slice_index_or, sym, subst, arith}
use Rattle.rc_table_search.specs.declared.run.Stand.{Stand}
use Rattle.rc_table_search.specs.Searches.{IsAt}
use Rattle.rc_table_search.proofs.BesideLemmas.{byte_alone, byte_leads}
use Rattle.rc_table_search.proofs.SpanLemmas.{next_here}
use Rattle.rc_table_search.proofs.OverLemmas.{slice_here}
use Rattle.rc_table_search.proofs.SearchLemmas.{at_moved, step_dies}
use Rattle.rc_table_search.proofs.inside.run_inside.Goals as goal
use Rattle.rc_table_search.proofs.inside.run_inside.Goals.{After-next}

-- one state may be added, by the last byte
spent : (g : _) (c : After-next g) → (g.T.Transitions.view c.args.table.now false).Spends c.args.cache.now c.next.new.cache 1
spent g c =
    let v = g.T.Transitions.view c.args.table.now false in
    let laws = g.met.T.Transitions.lawful c.args.table.now false in
    laws.spends_both c.args.cache.now c.run-on.new.cache c.next.new.cache 0 1
    (c.run-on.ensures.same.spends c.args.cache.now 0 (laws.spends_nothing c.args.cache.now 0)) c.next.ensures.spends

pub returns-in_default-clause-spends : goal.returns-in_default-clause-spends
returns-in_default-clause-spends g c = spent g (goal.at.returns-in_default-clause-spends g c).After-next

pub returns-then-cell-clause-spends : goal.returns-then-cell-clause-spends
returns-then-cell-clause-spends g c = spent g (goal.at.returns-then-cell-clause-spends g c).After-next

pub returns-then-has_died-clause-spends : goal.returns-then-has_died-clause-spends
returns-then-has_died-clause-spends g c = spent g (goal.at.returns-then-has_died-clause-spends g c).After-next

pub returns-clause-spends : goal.returns-clause-spends
returns-clause-spends g c = spent g (goal.at.returns-clause-spends g c).After-next

pub returns-then-has_died-clause-over : goal.returns-then-has_died-clause-over
returns-then-has_died-clause-over g c = λ o here piece bound.
    let v = g.T.Transitions.view c.args.table.now false in
    let laws = g.met.T.Transitions.lawful c.args.table.now false in
    let q = c.args.request.now in
    let rest = c.args.rest.now in
    let stand : Stand = record { row = c.args.row; noted = None } in
    let on = c.run-on.result.0 in
    let le = c.run-on.ensures.within in
    let lt : on < length rest = omega (arith, le, c.if-on-rest.false) in
    let first : q.from ≡ q.from + 0 = omega arith in
    let high = piece.high in
    let moved = at_moved _ v laws false o q c.args.cache.now c.run-on.new.cache rest q.from on
    c.run-on.result.1.row stand c.run-on.result.1.noted c.note_of-noted.result (subst (λ i. IsAt v false o q c.args.cache.now i stand) first here)
    piece.low bound piece.is high (λ k. let small = c.type_inv.rest k in omega (arith, small)) le c.run-on.ensures.same c.run-on.ensures.row c.run-on.ensures.run
    c.note_of-noted.ensures in
    let next = next_here false o.seen q.end q.from on rest bound piece.is high le (omega (arith, lt)) in
    let inside = slice_here false o.seen q.from on (length rest) piece.low (omega (arith, high, bound)) le (omega (arith, lt)) in
    let leads = byte_leads _ v laws false o.seen c.run-on.new.cache c.next.new.cache (q.from + on) c.run-on.result.1.row _ c.in-Ok.cell
    (byte_alone _ v laws false o.seen _ (sym c.needs_symbol.ensures ∙ c.if-needs_symbol.false)) inside next.there c.in-Ok.ensures.cell in
    step_dies _ v laws false o q c.run-on.new.cache c.next.new.cache (q.from + on) _ (slice_index_or rest on 0) c.in-Ok.cell moved c.in-Ok.ensures.cache c.in-Ok.ensures.spends leads
    (omega (arith, lt, high)) c.if-cell.false c.noted_by-noted.result c.noted_by-noted.ensures next.left c.told-ended.result (sym c.has_died.ensures ∙ c.if-has_died.true) c.told-ended.ensures
