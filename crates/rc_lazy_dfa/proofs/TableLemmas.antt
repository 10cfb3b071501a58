-- The rows that a run reads.
use Rattle.std.proofs.Common.{◌≡◌, ℕ, ◌+◌, ◌-◌, ◌<◌, ◌≤◌, false, List, length, Some, slice_get, slice_index_or, refl, sym, subst, true≢false, arith}
use Rattle.std.proofs.lemmas.Option.{slice_get-get_or}
use Rattle.rc_dfa.specs.Machine.{Leads}
use Rattle.rc_table_search.specs.Walks.{AreRows, cell_by, met, skip}
use Rattle.rc_lazy_dfa.specs.Rows.{IsRowOf}
use Rattle.rc_lazy_dfa.specs.declared.store.Store.{Store}
use Rattle.rc_lazy_dfa.proofs.RowLemmas as rows
use Rattle.rc_lazy_dfa.proofs.WriteLemmas.{byte_inside}
use Rattle.rc_lazy_dfa.proofs.CellLemmas.{cell_here, leads_to, marked, plain}

module _ (s : Store) (classes : List ℕ) (row b : ℕ) (x : IsRowOf s classes row) (byte : b < 256) where
  row_inside : (b < length classes) × (row + slice_index_or classes b 0 < length s.cells.items)
  row_inside =
      let size = x.held.frame.size in
      let same = x.same in
      let lt : b < length classes = subst (λ xs. b < length xs) (sym same) (omega (arith, size, byte)) in
      let here = slice_get-get_or classes b 0 lt in
      let below = byte_inside x.frame b (slice_index_or classes b 0) x.held.frame (subst (λ xs. slice_get xs b ≡ Some (slice_index_or classes b 0)) same here) in
      let fits = rows.row_inside x.frame s x.held row x.state x.in_row in
      (lt, omega (arith, below, fits))

  row_plain : cell_by s.cells.items classes row b < skip → IsRowOf s classes (cell_by s.cells.items classes row b)
  row_plain lt =
      let cell = cell_by s.cells.items classes row b in
      let known = cell_here x.frame s s.cells.items classes row b x.state x.held refl x.same byte x.in_row (λ e. omega (arith, e, lt)) in
      let to = leads_to x.frame s.states (Some b) (Leads x.frame.machine x.state (Some b)) cell known (λ e. omega (arith, e, lt)) in
      let k = to.1 in
      record { frame = x.frame; held = x.held; same = x.same; state = k.0; in_row = (plain x.frame s x.held cell k.0 k.2 lt).0 }

  row_found : met ≤ cell_by s.cells.items classes row b → cell_by s.cells.items classes row b - met < skip →
      IsRowOf s classes (cell_by s.cells.items classes row b - met)
  row_found low high =
      let cell = cell_by s.cells.items classes row b in
      let known = cell_here x.frame s s.cells.items classes row b x.state x.held refl x.same byte x.in_row (λ e. omega (arith, e, low)) in
      let to = leads_to x.frame s.states (Some b) (Leads x.frame.machine x.state (Some b)) cell known (λ e. omega (arith, e, high)) in
      let k = to.1 in
      record { frame = x.frame; held = x.held; same = x.same; state = k.0; in_row = (marked x.frame s x.held cell k.0 k.2 low high).0 }

pub are_rows : (s : Store) (classes : List ℕ) → AreRows (IsRowOf s classes) false s.cells.items classes
are_rows s classes = record {
  inside = λ row b x byte. row_inside s classes row b x byte;
  plain = λ row b x byte. row_plain s classes row b x byte;
  leapt = λ row b x byte never low high. absurd (true≢false (sym never));
  found = λ row b x byte. row_found s classes row b x byte;
}
