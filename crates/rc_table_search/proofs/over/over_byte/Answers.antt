use Rattle.std.proofs.Common.{inr, arith}
use Rattle.rc_table_search.proofs.BesideLemmas.{byte_leads}
use Rattle.rc_table_search.proofs.OverLemmas.{goes_plain, row_plain}
use Rattle.rc_table_search.proofs.over.over_byte.Goals as goal

pub returns-clause-row : goal.returns-clause-row
returns-clause-row g c =
    let lt = c.if-cell-ge-SKIP.false in
    row_plain _ (g.T.Transitions.view c.args.table.now g.W.Way.BACKWARDS) c.args.cache.now c.known-cell.result
    (c.known-cell.ensures (λ e. omega (arith, e, lt))).is_row lt

pub returns-clause-on : goal.returns-clause-on
returns-clause-on g c = λ o q i at tagged left.
    let backwards = g.W.Way.BACKWARDS in
    let v = g.T.Transitions.view c.args.table.now backwards in
    let laws = g.met.T.Transitions.lawful c.args.table.now backwards in
    let cache = c.args.cache.now in
    let cell = c.known-cell.result in
    goes_plain _ v laws backwards o q cache i c.args.stand cell at
    (λ ne. byte_leads _ v laws backwards o.seen cache cache i c.args.stand.row c.args.byte cell (inr c.requires.small) tagged.inside tagged.there
    (c.known-cell.ensures ne)) left c.if-cell-ge-SKIP.false
