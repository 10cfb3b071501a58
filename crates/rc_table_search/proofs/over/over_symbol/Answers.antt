use Rattle.std.proofs.Common.{arith}
use Rattle.rc_table_search.proofs.WayLemmas.{some_before}
use Rattle.rc_table_search.proofs.BesideLemmas.{symbol_leads}
use Rattle.rc_table_search.proofs.OverLemmas.{goes_plain, row_plain}
use Rattle.rc_table_search.proofs.over.over_symbol.Goals as goal

pub known_over-cell-requires-clause-reads : goal.known_over-cell-requires-clause-reads
known_over-cell-requires-clause-reads g c = g.met.T.Transitions.with_symbols c.args.table.now g.W.Way.BACKWARDS c.requires.reads

pub returns-clause-row : goal.returns-clause-row
returns-clause-row g c =
    let lt = c.if-cell-ge-SKIP.false in
    row_plain _ (g.T.Transitions.view c.args.table.now g.W.Way.BACKWARDS) c.args.cache.now c.known_over-cell.result
    (c.known_over-cell.ensures c.requires.reads (λ e. omega (arith, e, lt))).is_row lt

pub returns-clause-on : goal.returns-clause-on
returns-clause-on g c = λ o q i at tagged left.
    let backwards = g.W.Way.BACKWARDS in
    let v = g.T.Transitions.view c.args.table.now backwards in
    let laws = g.met.T.Transitions.lawful c.args.table.now backwards in
    let cache = c.args.cache.now in
    let cell = c.known_over-cell.result in
    goes_plain _ v laws backwards o q cache i c.args.stand cell at
    (λ ne. symbol_leads _ v laws backwards o.seen cache cache i c.args.stand.row cell
    (record { byte = c.args.byte; tagged = c.args.tagged }) c.requires.reads (some_before backwards o.seen.content i c.args.byte tagged.there)
    (tagged.symbol c.requires.past) (c.known_over-cell.ensures c.requires.reads ne)) left c.if-cell-ge-SKIP.false
