use Rattle.std.proofs.lemmas.Result.{IfOk-weaker}
use Rattle.rc_table_search.specs.Searches.{IsRowOf, LeadsAt}
use Rattle.rc_table_search.proofs.WayLemmas.{some_before}
use Rattle.rc_table_search.proofs.search.step.Goals as goal

pub follow-requires-clause-row : goal.follow-requires-clause-row
follow-requires-clause-row g c =
    let backwards = g.W.Way.BACKWARDS in
    let v = g.T.Transitions.view c.args.table.now backwards in
    IfOk-weaker c.cell_on-cell.result (LeadsAt v backwards g.outset.seen c.args.cache.now c.cell_on-cell.new.cache c.args.at c.args.stand.row)
    (IsRowOf v c.cell_on-cell.new.cache) (λ cell leads. leads.is_row) c.cell_on-cell.ensures.cell

pub follow-requires-clause-low : goal.follow-requires-clause-low
follow-requires-clause-low g c = λ backwards. some_before g.W.Way.BACKWARDS g.outset.seen.content c.args.at c.args.byte c.requires.1.1.1.1.1.1.1.0.there backwards

pub returns-clause-leg : goal.returns-clause-leg
returns-clause-leg g c =
    c.follow.ensures.leg g.outset (record {
      before = c.args.cache.now;
      here = c.requires.1.1.1.1.0;
      cache = c.cell_on-cell.ensures.cache;
      spends = c.cell_on-cell.ensures.spends;
      leads = c.cell_on-cell.ensures.cell;
      refused = c.cell_on-cell.ensures.refused;
    }) c.requires.1.1.1.1.1.1.1.0
