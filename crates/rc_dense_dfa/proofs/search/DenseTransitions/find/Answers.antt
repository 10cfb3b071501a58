use Rattle.std.proofs.Common.{◌≡◌, ◌+◌, ◌/◌, ◌∙◌, Some, ap, sym, subst, slice_index_or}
use Rattle.std.specs.Option.{unwrap_or}
use Rattle.rc_dense_dfa.specs.declared.table.Table.{Table}
use Rattle.rc_dense_dfa.proofs.MarkLemmas.{tells_it, wide}
use Rattle.rc_dense_dfa.proofs.search.DenseTransitions.find.Goals as goal

pub find_in-requires : goal.find_in-requires
find_in-requires g c = wide c.table_in-table.result.now

pub returns : goal.returns
returns g c = λ m k note.
    let has = note.1 in
    let is = tells_it m has.states _ c.args.note note.0 k has.is_table has.is_row note.2 in
    c.unwrap_or.ensures ∙ ap (λ o. unwrap_or o 0)
    (c.find_in.ensures (Some k)
    (subst (λ xs. slice_index_or xs (c.args.note / c.table_in-table.result.now.width) 0 ≡ k + 1) (sym c.as_slice.ensures.value)
    (subst (λ (t : Table). slice_index_or t.tells.items (c.args.note / t.width) 0 ≡ k + 1) (sym c.table_in-table.ensures) is)))

pub returns-in-Some : goal.returns-in-Some
returns-in-Some g c = λ m k note.
    let has = note.1 in
    let is = tells_it m has.states _ c.args.note note.0 k has.is_table has.is_row note.2 in
    let table = c.table_in-table.result.now in
    sym (table.alone c.in-Some.found c.in-Some.is (c.args.note / table.width) k
    (subst (λ (t : Table). slice_index_or t.tells.items (c.args.note / t.width) 0 ≡ k + 1) (sym c.table_in-table.ensures) is))
