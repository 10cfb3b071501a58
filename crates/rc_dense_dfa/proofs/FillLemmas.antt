-- Cells that stand row by row.
use Rattle.std.proofs.Common.{◌≡◌, inl, inr, ℕ, ◌+◌, ◌*◌, ◌<◌, ◌≤◌, List, [], ◌∷◌, ◌++◌, length, Option, Some, slice_get, slice_index, slice_index_or, refl, sym, subst, ap, ◌∙◌, arith}
use Rattle.std.proofs.Math.Nat.{mul-le-mul_left}
use Rattle.std.proofs.Math.Seq.{get_or-append_seam}
use Rattle.std.proofs.lemmas.Bool.{cases_lt}
use Rattle.std.proofs.lemmas.List.{get_or_append_left, length_push}
use Rattle.std.proofs.lemmas.Option.{slice_get_within, slice_get-get_or, get_or_from_slice_get}
use Rattle.rc_determinize.specs.States.{State}
use Rattle.rc_dfa.specs.Machine.{Machine, Leads}
use Rattle.rc_dense_dfa.specs.declared.error.TableError.{TableError}
use Rattle.rc_dense_dfa.specs.declared.names.Names.{Names}
use Rattle.rc_dense_dfa.specs.Cells.{quit}
use Rattle.rc_dense_dfa.specs.Tables.{dead_state}
use Rattle.rc_dense_dfa.specs.Makes.{IsRefused}
use Rattle.rc_dense_dfa.specs.Rows.{Grows, IsCell, AreFilled, IsCellOf, AreRows}

-- a row and a column stand at one index alone
not_less : (n r q c d : ℕ) → c < n → r * n + c ≡ q * n + d → r < q → ⊥
not_less n r q c d lt e h =
    let step : r + 1 ≤ q = omega arith in
    let product = mul-le-mul_left n step in
    omega (arith, product)

pub same_row : (n r q c d : ℕ) → c < n → d < n → r * n + c ≡ q * n + d → r ≡ q
same_row n r q c d lt lt2 e =
    let a = not_less n r q c d lt e in
    let b = not_less n q r d c lt2 (sym e) in
    omega (arith, a, b)

pub filled_more : (columns : ℕ) (Holds : ℕ → ℕ → ℕ → Type 0) (cells : List ℕ) (cell row column : ℕ) → AreFilled columns Holds cells →
    length cells ≡ row * columns + column → column < columns → Holds row column cell → AreFilled columns Holds (cells ++ cell ∷ [])
filled_more columns Holds cells cell row column f len lt h = record {
  told = λ r c below within. elim (cases_lt (r * columns + c) (length cells)) [
    | inl old ↦ subst (Holds r c) (sym (get_or_append_left cells (cell ∷ []) quit (r * columns + c) old)) (f.told r c below old)
    | inr past ↦
        let grown = length_push cells cell in
        let at : r * columns + c ≡ length cells = omega (arith, past, within, grown) in
        let rows = same_row columns r row c column below lt (at ∙ len) in
        let same : c ≡ column = let e = ap (λ k. k * columns) rows in omega (arith, e, at, len) in
        let value : slice_index_or (cells ++ cell ∷ []) (r * columns + c) quit ≡ cell =
        ap (λ i. slice_index_or (cells ++ cell ∷ []) i quit) at ∙ get_or-append_seam cells cell [] quit in
        subst (λ (x : ℕ). Holds r c x) (sym value) (subst (λ (x : ℕ). Holds x c cell) (sym rows) (subst (λ (x : ℕ). Holds row x cell) (sym same) h))
  ];
}

abbrev pub Kept : List State → List State → Type 0
Kept old new = (id : ℕ) (s : State) → slice_get old id ≡ Some s → slice_get new id ≡ Some s

pub cell_kept : (m : Machine) (w : ℕ) (old new : List State) (beside : Option ℕ) (To : State → Type 0) (cell : ℕ) → Kept old new →
    IsCell m w old beside To cell → IsCell m w new beside To cell
cell_kept m w old new beside To cell k (inl h) = inl h
cell_kept m w old new beside To cell k (inr h) =
    let n = h.1.2 in inr (h.0, (h.1.0, h.1.1, (n.0, k n.0 h.1.0 n.1, n.2)))

pub row_there : (n r c rows : ℕ) → r * n + c < rows * n → r < rows
row_there n r c rows h = elim (cases_lt r rows) [
  | inl lt ↦ lt
  | inr ge ↦ let product = mul-le-mul_left n ge in absurd (omega (arith, product, h))
]

pub cells_kept : (m : Machine) (samples : List ℕ) (old new : List State) (cells : List ℕ) → Kept old new →
    length cells ≤ length old * length samples → AreFilled (length samples) (IsCellOf m samples old) cells →
    AreFilled (length samples) (IsCellOf m samples new) cells
cells_kept m samples old new cells k few f = record {
  told = λ r c below within s b e g.
      let inside : r < length old = row_there (length samples) r c (length old) (omega (arith, within, few)) in
      let there = slice_get-get_or old r dead_state inside in
      let moved = k r _ there in
      let same : slice_index_or old r dead_state ≡ s = cc in
      cell_kept m (length samples) old new (Some b) _ _ k (f.told r c below within s b (there ∙ ap Some same) g);
}

pub longer : (old new : List State) → Kept old new → length old ≤ length new
longer old new k = elim (cases_lt (length new) (length old)) [
  | inl lt ↦
      let there = slice_get-get_or old (length new) dead_state lt in
      let within = slice_get_within new (length new) _ (k (length new) _ there) in
      omega (arith, within)
  | inr ge ↦ ge
]

pub refused_by : (m : Machine) (old new : Names) (e : TableError) → Grows old new → IsRefused m new.width new.limit e → IsRefused m old.width old.limit e
refused_by m old new e g h = rw (← g.width, ← g.limit) h

pub grows_on : (a b c : Names) → Grows a b → Grows b c → Grows a c
grows_on a b c g h = record { width = h.width ∙ g.width; limit = h.limit ∙ g.limit; kept = λ id s e. h.kept id s (g.kept id s e) }

pub grows_not : (a : Names) → Grows a a
grows_not a = record { width = refl; limit = refl; kept = λ id s e. e }

-- one more cell of a row
pub row_more : (m : Machine) (samples : List ℕ) (old new : List State) (row column cell : ℕ) (cells : List ℕ) → Kept old new → row < length old →
    column < length samples → AreRows m samples old row column cells → IsCellOf m samples new row column cell →
    AreRows m samples new row (column + 1) (cells ++ cell ∷ [])
row_more m samples old new row column cell cells k inside below a c =
    let l = longer old new k in
    let step : row + 1 ≤ length new = omega arith in
    let product = mul-le-mul_left (length samples) step in
    let len = a.len in
    record {
      filled = filled_more (length samples) (IsCellOf m samples new) cells cell row column
          (cells_kept m samples old new cells k (let w = a.within in omega (arith, w, len)) a.filled) a.len below c;
      len = rw length_push (omega (arith, len));
      within = omega (arith, product);
    }

pub row_done : (m : Machine) (samples : List ℕ) (states : List State) (row : ℕ) (cells : List ℕ) →
    AreRows m samples states row (length samples) cells → AreRows m samples states (row + 1) 0 cells
row_done m samples states row cells a =
    let len = a.len in
    let within = a.within in
    record { filled = a.filled; len = omega (arith, len); within = omega (arith, within) }

-- a cell of the byte that stands at the index
pub cell_of : (m : Machine) (samples items : List ℕ) (old new : List State) (w number index cell : ℕ) → items ≡ samples → number < length old →
    Kept old new → w ≡ length samples →
    ((s : State) → slice_get old number ≡ Some s → IsCell m w new (Some (slice_index items index)) (Leads m s (Some (slice_index items index))) cell) →
    IsCellOf m samples new number index cell
cell_of m samples items old new w number index cell same lt k width h = λ s b e f.
    let there = slice_get-get_or old number dead_state lt in
    let moved = k number _ there in
    let state : slice_index_or old number dead_state ≡ s = cc in
    let byte : slice_index items index ≡ b = ap (λ xs. slice_index xs index) same ∙ get_or_from_slice_get samples index b 0 f in
    subst (λ (n : ℕ). IsCell m n new (Some b) (Leads m s (Some b)) cell) width
    (subst (λ (x : ℕ). IsCell m w new (Some x) (Leads m s (Some x)) cell) byte (h s (there ∙ ap Some state)))
