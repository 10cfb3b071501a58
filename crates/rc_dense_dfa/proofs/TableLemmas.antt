-- The rows that a run reads.
use Rattle.std.proofs.Common.{◌≡◌, ◌≢◌, ℕ, ◌+◌, ◌<◌, true, List, length, slice_index_or, refl, sym, subst, arith}
use Rattle.rc_table_search.specs.Walks.{AreRows, cell_by}
use Rattle.rc_dense_dfa.specs.Cells.{quit, row_of}
use Rattle.rc_dense_dfa.specs.Searches.{InRow, IsRowBy}
use Rattle.rc_dense_dfa.specs.declared.table.Table.{Table}
use Rattle.rc_dense_dfa.proofs.MarkLemmas.{classed, met_row, named_here, plain_row, skip_row}

module _ (d : Table) (classes : List ℕ) (row b : ℕ) (x : IsRowBy d classes row) (byte : b < 256) where
  inside : (b < length classes) × (row + slice_index_or classes b 0 < length d.cells.items)
  inside =
      let size = d.classed.0 in
      let within = x.within in
      let lt : b < length classes = subst (λ xs. b < length xs) (sym x.same) (omega (arith, size, byte)) in
      let class = subst (λ xs. slice_index_or xs b 0 < d.width) (sym x.same) (classed d b byte) in
      (lt, omega (arith, within, class))

  -- to the row that the cell names
  to_row : (r : ℕ) → row_of (cell_by d.cells.items classes row b) ≡ r → cell_by d.cells.items classes row b ≢ quit → IsRowBy d classes r
  to_row r is ne = record {
    same = x.same;
    within = subst (λ k. InRow d k) is (named_here d d.cells.items classes row b refl x.same x.within byte ne);
  }

pub are_rows : (d : Table) (classes : List ℕ) → AreRows (IsRowBy d classes) true d.cells.items classes
are_rows d classes = record {
  inside = λ row b x byte. inside d classes row b x byte;
  plain = λ row b x byte lt. let cell = cell_by d.cells.items classes row b in to_row d classes row b x byte cell (plain_row cell lt) (λ e. omega (arith, e, lt));
  leapt = λ row b x byte leaps low high.
      let cell = cell_by d.cells.items classes row b in to_row d classes row b x byte _ (skip_row cell low high) (λ e. omega (arith, e, high));
  found = λ row b x byte low high.
      let cell = cell_by d.cells.items classes row b in to_row d classes row b x byte _ (met_row cell low high) (λ e. omega (arith, e, low, high));
}
