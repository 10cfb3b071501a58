use Rattle.std.proofs.Common.{sym, subst}
use Rattle.rc_table_search.proofs.SearchLemmas.{noted_on}
use Rattle.rc_table_search.proofs.search.noted_by.Goals as goal

pub returns-then-cell-ge-MET : goal.returns-then-cell-ge-MET
returns-then-cell-ge-MET g c = λ m t last n tells.
    let v = g.T.Transitions.view c.args.table.now g.W.Way.BACKWARDS in
    noted_on _ v c.args.cache.now m c.args.cell c.args.at c.note.result t last n c.if-cell-ge-MET.true
    (λ s k has is. c.note.ensures m s k (subst (λ r. v.HasState c.args.cache.now m r s) (sym c.row_of.ensures) has) is)
