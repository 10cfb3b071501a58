use Rattle.std.proofs.Common.{◌≡◌, ◌/◌, ◌∙◌, true, false, sym, subst, slice_index_or}
use Rattle.rc_dense_dfa.specs.declared.table.Table.{Table}
use Rattle.rc_dense_dfa.proofs.MarkLemmas.{idle_row}
use Rattle.rc_dense_dfa.proofs.search.DenseTransitions.is_idle.Goals as goal

pub returns : goal.returns
returns g c = λ yes m s has.
    idle_row m has.states _ c.args.row s has.is_table has.is_row
    (subst (λ (t : Table). slice_index_or t.idles.items (c.args.row / t.width) false ≡ true) c.table_in.ensures (sym c.is_idle.ensures ∙ yes))
