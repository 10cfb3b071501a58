use Rattle.std.proofs.Common.{◌≡◌, ◌+◌, ◌*◌, length, subst}
use Rattle.rc_dense_dfa.specs.Cells.{IsNamed}
use Rattle.rc_dense_dfa.specs.Tables.{column, mode_of, start_at}
use Rattle.rc_dense_dfa.specs.declared.table.Table.{Table}
use Rattle.rc_dense_dfa.proofs.SearchLemmas.{start_says}
use Rattle.rc_dense_dfa.proofs.search.DenseTransitions.start.Goals as goal

pub returns-clause-cell : goal.returns-clause-cell
returns-clause-cell g c =
    start_says c.args.self.now g.W.Way.BACKWARDS c.args._cache.now c.args.anchored c.args.beside c.start.result c.requires.byte
    (subst (λ (t : Table). c.start.result ≡ start_at t (mode_of c.args.anchored * (t.width + 1) + column t c.args.beside)) c.table_in.ensures c.start.ensures.value)
    (subst (λ (t : Table). IsNamed t.width (length t.cells.items) c.start.result) c.table_in.ensures c.start.ensures.named)
