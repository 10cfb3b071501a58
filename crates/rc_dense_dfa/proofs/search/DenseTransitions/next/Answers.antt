use Rattle.std.proofs.Common.{◌≡◌, ◌+◌, length, subst}
use Rattle.rc_dense_dfa.specs.Cells.{IsNamed}
use Rattle.rc_dense_dfa.specs.Tables.{cell_at, class_at}
use Rattle.rc_dense_dfa.specs.declared.table.Table.{Table}
use Rattle.rc_dense_dfa.proofs.SearchLemmas.{step_says}
use Rattle.rc_dense_dfa.proofs.search.DenseTransitions.next.Goals as goal

pub returns-clause-cell : goal.returns-clause-cell
returns-clause-cell g c =
    step_says c.args.self.now g.W.Way.BACKWARDS c.args._cache.now c.args._cache.now c.args.row c.args.byte c.cell_of.result c.ranges.byte.fits
    (subst (λ (t : Table). c.cell_of.result ≡ cell_at t (c.args.row + class_at t c.args.byte)) c.table_in.ensures c.cell_of.ensures.value)
    (subst (λ (t : Table). IsNamed t.width (length t.cells.items) c.cell_of.result) c.table_in.ensures c.cell_of.ensures.named)
