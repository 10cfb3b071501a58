use Rattle.std.proofs.Common.{◌+◌, ◌*◌, ◌∙◌, ap, slice_index_or}
use Rattle.rc_dense_dfa.specs.Cells.{quit}
use Rattle.rc_dense_dfa.specs.Tables.{mode_of, start_at}
use Rattle.rc_dense_dfa.proofs.StartLemmas.{start_index}
use Rattle.rc_dense_dfa.proofs.start.start.Goals as goal

pub returns-clause-value : goal.returns-clause-value
returns-clause-value c =
    let d = c.args.table.now in
    c.cell_at-2.ensures
    ∙ ap (λ xs. slice_index_or xs c.saturating_add-index.result quit) c.as_slice-2.ensures.value
    ∙ start_index d c.mode-mode.result c.column-column.result c.saturating_add-columns.result c.saturating_mul.result c.saturating_add-index.result
    c.saturating_add-columns.ensures c.saturating_mul.ensures c.saturating_add-index.ensures
    ∙ ap (λ n. start_at d (n * (d.width + 1) + c.column-column.result)) c.mode-mode.ensures.value
    ∙ ap (λ n. start_at d (mode_of c.args.anchored * (d.width + 1) + n)) c.column-column.ensures.value
