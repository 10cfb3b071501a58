use Rattle.std.proofs.lemmas.Result.{IfOk-weaker}
use Rattle.rc_table_search.specs.Views.{IsStepOver}
use Rattle.rc_table_search.specs.Searches.{IsRowOf, LeadsAt}
use Rattle.rc_table_search.proofs.BesideLemmas.{symbol_leads}
use Rattle.rc_table_search.proofs.search.step_over.Goals as goal

pub follow-requires-clause-row : goal.follow-requires-clause-row
follow-requires-clause-row g c =
    let v = g.T.Transitions.view c.args.table.now g.W.Way.BACKWARDS in
    let new = c.cell_over-cell.new.cache in
    IfOk-weaker c.cell_over-cell.result (IsStepOver v g.W.Way.BACKWARDS c.args.cache.now new c.args.stand.row c.args.symbol) (IsRowOf v new)
    (λ cell step. step.is_row) c.cell_over-cell.ensures.cell

pub returns-clause-leg : goal.returns-clause-leg
returns-clause-leg g c = λ o at symbol next.
    let backwards = g.W.Way.BACKWARDS in
    let v = g.T.Transitions.view c.args.table.now backwards in
    let laws = g.met.T.Transitions.lawful c.args.table.now backwards in
    let are = c.requires.reads in
    let old = c.args.cache.now in
    let new = c.cell_over-cell.new.cache in
    c.follow.ensures.leg o (record {
      before = old;
      here = at;
      cache = c.cell_over-cell.ensures.cache;
      spends = c.cell_over-cell.ensures.spends;
      leads = IfOk-weaker c.cell_over-cell.result (IsStepOver v backwards old new c.args.stand.row c.args.symbol)
          (LeadsAt v backwards o.seen old new c.args.at c.args.stand.row)
          (λ cell. symbol_leads _ v laws backwards o.seen old new c.args.at c.args.stand.row cell c.args.symbol are c.requires.low symbol)
          c.cell_over-cell.ensures.cell;
      refused = c.cell_over-cell.ensures.refused;
    }) next
