use Rattle.std.proofs.Common.{inr}
use Rattle.std.proofs.lemmas.Result.{IfOk-weaker}
use Rattle.rc_table_search.specs.Views.{IsStep}
use Rattle.rc_table_search.specs.Searches.{IsRowOf, LeadsAt}
use Rattle.rc_table_search.proofs.BesideLemmas.{byte_leads}
use Rattle.rc_table_search.proofs.search.step_alone.Goals as goal

pub follow-requires-clause-row : goal.follow-requires-clause-row
follow-requires-clause-row g c =
    let v = g.T.Transitions.view c.args.table.now g.W.Way.BACKWARDS in
    let new = c.next-cell.new.cache in
    IfOk-weaker c.next-cell.result (IsStep v c.args.cache.now new c.args.stand.row c.args.byte) (IsRowOf v new) (λ cell step. step.is_row) c.next-cell.ensures.cell

pub returns-clause-leg : goal.returns-clause-leg
returns-clause-leg g c = λ o at inside next.
    let backwards = g.W.Way.BACKWARDS in
    let v = g.T.Transitions.view c.args.table.now backwards in
    let laws = g.met.T.Transitions.lawful c.args.table.now backwards in
    let old = c.args.cache.now in
    let new = c.next-cell.new.cache in
    c.follow.ensures.leg o (record {
      before = old;
      here = at;
      cache = c.next-cell.ensures.cache;
      spends = c.next-cell.ensures.spends;
      leads = IfOk-weaker c.next-cell.result (IsStep v old new c.args.stand.row c.args.byte) (LeadsAt v backwards o.seen old new c.args.at c.args.stand.row)
          (λ cell. byte_leads _ v laws backwards o.seen old new c.args.at c.args.stand.row c.args.byte cell (inr c.requires.small) inside next.there)
          c.next-cell.ensures.cell;
      refused = c.next-cell.ensures.refused;
    }) next
