-- What cells mean.
use Rattle.std.proofs.Common.{◌≡◌, ◌≢◌, ℕ, ◌+◌, ◌-◌, ◌<◌, ◌≤◌, true, is_some, List, Option, Some, None, slice_index_or, inl, inr, refl, sym, subst, ap, ◌∙◌, arith}
use Rattle.std.proofs.lemmas.Bool.{le-leb, lt-leb}
use Rattle.rc_determinize.specs.States.{State}
use Rattle.rc_dfa.specs.Machine.{Leads}
use Rattle.rc_dfa.specs.Runs.{MayRead}
use Rattle.rc_table_search.proofs.WayLemmas.{none_of}
use Rattle.rc_lazy_dfa.specs.Cells.{unknown, met, quit, row_of}
use Rattle.rc_lazy_dfa.specs.declared.letters.Letter.TheVariants.{Alone}
use Rattle.rc_lazy_dfa.specs.Stores.{Frame, Held, IsRow, Names, IsKnown}
use Rattle.rc_lazy_dfa.specs.declared.store.Store.{Store}
use Rattle.rc_lazy_dfa.proofs.StepLemmas.{cell_says}
use Rattle.rc_lazy_dfa.proofs.NameLemmas.{met_or_not, row_met, named_row}

-- A CELL THAT NEEDS NO LOOK

pub some_of : (o : Option ℕ) → is_some o ≡ true → (k : ℕ) × (o ≡ Some k)
some_of None e = cc e
some_of (Some n) e = (n, refl)

-- the cell that a loop reads
pub cell_here : (f : Frame) (s : Store) (cells classes : List ℕ) (row b : ℕ) (t : State) → Held f s → cells ≡ s.cells.items → classes ≡ f.classes → b < 256 →
    IsRow f.width s.states row t → slice_index_or cells (row + slice_index_or classes b 0) 0 ≢ unknown →
    IsKnown f s.states (Some b) (Leads f.machine t (Some b)) (slice_index_or cells (row + slice_index_or classes b 0) 0)
cell_here f s cells classes row b t h same_cells same_classes byte r ne =
    cell_says f s row (slice_index_or classes b 0) (slice_index_or cells (row + slice_index_or classes b 0) 0) 0 (Alone (Some b)) t h byte
    (ap (λ xs. slice_index_or xs b 0) same_classes) (ap (λ xs. slice_index_or xs (row + slice_index_or classes b 0) 0) same_cells) ne r

-- where it leads, if the byte is read
pub leads_to : (f : Frame) (states : List State) (beside : Option ℕ) (To : State → Type 0) (cell : ℕ) → IsKnown f states beside To cell → cell ≢ quit →
    MayRead f.machine beside × ((t : State) × To t × Names f.width states cell t)
leads_to f states beside To cell (inl h) ne = absurd (ne h.0)
leads_to f states beside To cell (inr h) ne = h

pub none_met : (f : Frame) (s : Store) (h : Held f s) (cell : ℕ) (t : State) → Names f.width s.states cell t → cell < met → t.matched ≡ None
none_met f s h cell t n lt = none_of t.matched (sym (met_or_not f s h cell t n) ∙ lt-leb met cell lt)

pub plain : (f : Frame) (s : Store) (h : Held f s) (cell : ℕ) (t : State) → Names f.width s.states cell t → cell < unknown →
    IsRow f.width s.states cell t × (t.matched ≡ None)
plain f s h cell t n lt =
    let row : row_of cell ≡ cell = omega (arith, lt) in
    (subst (λ r. IsRow f.width s.states r t) row (named_row f s h cell t n (λ e. omega (arith, e, lt))), none_met f s h cell t n (omega (arith, lt)))

pub marked : (f : Frame) (s : Store) (h : Held f s) (cell : ℕ) (t : State) → Names f.width s.states cell t → met ≤ cell → cell - met < unknown →
    IsRow f.width s.states (cell - met) t × ((k : ℕ) × (t.matched ≡ Some k))
marked f s h cell t n le lt =
    let row : row_of cell ≡ cell - met = omega (arith, le, lt) in (
      subst (λ r. IsRow f.width s.states r t) row (row_met f s h cell t n le),
      some_of t.matched (sym (met_or_not f s h cell t n) ∙ le-leb met cell le),
    )
