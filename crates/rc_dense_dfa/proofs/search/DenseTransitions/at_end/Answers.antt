use Rattle.std.proofs.Common.{◌≡◌, ◌/◌, sym, subst, slice_index_or}
use Rattle.rc_dense_dfa.specs.Tables.{code_of}
use Rattle.rc_dense_dfa.specs.declared.table.Table.{Table}
use Rattle.rc_dense_dfa.proofs.MarkLemmas.{ends_so, wide}
use Rattle.rc_dense_dfa.proofs.search.DenseTransitions.at_end.Goals as goal

pub find_in-requires : goal.find_in-requires
find_in-requires g c = wide c.table_in-table.result.now

pub returns-clause-found : goal.returns-clause-found
returns-clause-found g c = λ m s has.
    let e = ends_so m has.states _ c.args.row s has.is_table has.is_row in (
      e.0,
      e.1,
      c.find_in.ensures e.0.matched
          (subst (λ xs. slice_index_or xs (c.args.row / c.table_in-table.result.now.width) 0 ≡ code_of e.0.matched) (sym c.as_slice.ensures.value)
          (subst (λ (t : Table). slice_index_or t.ends.items (c.args.row / t.width) 0 ≡ code_of e.0.matched) (sym c.table_in-table.ensures) e.2)),
    )
