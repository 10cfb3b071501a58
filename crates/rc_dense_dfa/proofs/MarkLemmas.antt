-- What the marks of a cell say.
use Rattle.std.proofs.Common.{◌≡◌, ◌≢◌, ℕ, ◌+◌, ◌-◌, ◌*◌, ◌/◌, ◌<◌, ◌≤◌, Bool, true, false, is_some, nat_le, if◌then◌else◌, List, length, Some, None, slice_index_or, sym, ap, subst, ◌∙◌, arith}
use Rattle.std.proofs.Math.Nat.{mul-le-mul_right, mul-div_cancel}
use Rattle.std.proofs.lemmas.Bool.Decides.{nat_tests}
use Rattle.std.proofs.lemmas.Option.{slice_get_within, slice_get-get_or, get_or_from_slice_get}
use Rattle.rc_determinize.specs.States.{State}
use Rattle.rc_dfa.specs.Machine.{Machine, Leads, is_dead, is_idle}
use Rattle.rc_table_search.specs.Walks.{has_died}
use Rattle.rc_dense_dfa.specs.Cells.{met, dead, skip, quit, row_of, IsNamed}
use Rattle.rc_dense_dfa.specs.Tables.{IsRow, Names, marks, code_of, cell_at, class_at, IsTable}
use Rattle.rc_dense_dfa.specs.Searches.{InRow}
use Rattle.rc_dense_dfa.specs.declared.table.Table.{Table}

-- A CELL'S NUMBER

-- with no mark
pub plain_row : (cell : ℕ) → cell < skip → row_of cell ≡ cell
plain_row cell h = omega (arith, h)

-- with the mark `SKIP` alone
pub skip_row : (cell : ℕ) → skip ≤ cell → cell < dead → row_of cell ≡ cell - skip
skip_row cell h k = omega (arith, h, k)

-- with the mark of something met alone
pub met_row : (cell : ℕ) → met ≤ cell → cell - met < skip → row_of cell ≡ cell - met
met_row cell h k = omega (arith, h, k)

-- the row that is named lies within the cells
pub named_row : (width len cell : ℕ) → IsNamed width len cell → cell ≢ quit → row_of cell + width ≤ len
named_row width len cell h ne = grind (arith, nat_tests)

-- the number of a name
pub record IsName (row cell : ℕ) (stopped died : Bool) : Type 0 where
  pub low : row + 1 < dead
  pub is : cell ≡ row + ((if stopped then met else 0) + (if died then dead else 0))

-- with the mark `SKIP` or not
pub name_row : (row cell : ℕ) (stopped died skips : Bool) → row < skip →
    cell ≡ row + ((if stopped then met else 0) + (if died then dead else 0)) + (if skips then skip else 0) → row_of cell ≡ row
name_row row cell false false false low is = let e : cell ≡ row + (0 + 0) + 0 = is in omega (arith, e, low)
name_row row cell false false true low is = let e : cell ≡ row + (0 + 0) + skip = is in omega (arith, e, low)
name_row row cell false true false low is = let e : cell ≡ row + (0 + dead) + 0 = is in omega (arith, e, low)
name_row row cell false true true low is = let e : cell ≡ row + (0 + dead) + skip = is in omega (arith, e, low)
name_row row cell true false false low is = let e : cell ≡ row + (met + 0) + 0 = is in omega (arith, e, low)
name_row row cell true false true low is = let e : cell ≡ row + (met + 0) + skip = is in omega (arith, e, low)
name_row row cell true true false low is = let e : cell ≡ row + (met + dead) + 0 = is in omega (arith, e, low)
name_row row cell true true true low is = let e : cell ≡ row + (met + dead) + skip = is in omega (arith, e, low)

pub name_died : (row cell : ℕ) (stopped died : Bool) → IsName row cell stopped died → has_died cell ≡ died
name_died row cell false false n = let l = n.low in let e : cell ≡ row + (0 + 0) = n.is in grind (arith, nat_tests)
name_died row cell false true n = let l = n.low in let e : cell ≡ row + (0 + dead) = n.is in grind (arith, nat_tests)
name_died row cell true false n = let l = n.low in let e : cell ≡ row + (met + 0) = n.is in grind (arith, nat_tests)
name_died row cell true true n = let l = n.low in let e : cell ≡ row + (met + dead) = n.is in grind (arith, nat_tests)

pub name_met : (row cell : ℕ) (stopped died : Bool) → IsName row cell stopped died → nat_le met cell ≡ stopped
name_met row cell false false n = let l = n.low in let e : cell ≡ row + (0 + 0) = n.is in grind (arith, nat_tests)
name_met row cell false true n = let l = n.low in let e : cell ≡ row + (0 + dead) = n.is in grind (arith, nat_tests)
name_met row cell true false n = let l = n.low in let e : cell ≡ row + (met + 0) = n.is in grind (arith, nat_tests)
name_met row cell true true n = let l = n.low in let e : cell ≡ row + (met + dead) = n.is in grind (arith, nat_tests)

pub name_read : (row cell : ℕ) (stopped died : Bool) → IsName row cell stopped died → cell ≢ quit
name_read row cell false false n q = let l = n.low in let e : cell ≡ row + (0 + 0) = n.is in omega arith
name_read row cell false true n q = let l = n.low in let e : cell ≡ row + (0 + dead) = n.is in omega arith
name_read row cell true false n q = let l = n.low in let e : cell ≡ row + (met + 0) = n.is in omega arith
name_read row cell true true n q = let l = n.low in let e : cell ≡ row + (met + dead) = n.is in omega arith

-- THE ROWS OF A TABLE

pub wide : (d : Table) → 0 < d.width
wide d = let n = d.classed.0 in let h = d.classed.1 0 0 (omega (arith, n)) in omega (arith, h)

-- the class of a byte is that of a cell of the row
pub classed : (d : Table) (b : ℕ) → b < 256 → slice_index_or d.classes.items b 0 < d.width
classed d b h = let n = d.classed.0 in d.classed.1 b 0 (omega (arith, n, h))

-- a cell of the row, whatever stands for the cells past the end
cell_same : (d : Table) (row b other : ℕ) → InRow d row → b < 256 → slice_index_or d.cells.items (row + class_at d b) other ≡ cell_at d (row + class_at d b)
cell_same d row b other h byte =
    let c = classed d b byte in
    let lt : row + class_at d b < length d.cells.items = omega (arith, h, c) in
    get_or_from_slice_get d.cells.items (row + class_at d b) (cell_at d (row + class_at d b)) other (slice_get-get_or d.cells.items (row + class_at d b) quit lt)

cell_named : (d : Table) (row b : ℕ) → InRow d row → b < 256 → IsNamed d.width (length d.cells.items) (cell_at d (row + class_at d b))
cell_named d row b h byte = let c = classed d b byte in d.inside.0 (row + class_at d b) quit (omega (arith, h, c))

-- the cell that a loop reads
module _ (d : Table) (cells classes : List ℕ) (row b : ℕ) (same_cells : cells ≡ d.cells.items) (same_classes : classes ≡ d.classes.items)
    (in_row : InRow d row) (byte : b < 256) where
  pub here_is : slice_index_or cells (row + slice_index_or classes b 0) 0 ≡ cell_at d (row + class_at d b)
  here_is =
      ap (λ xs. slice_index_or xs (row + slice_index_or classes b 0) 0) same_cells
      ∙ ap (λ xs. slice_index_or d.cells.items (row + slice_index_or xs b 0) 0) same_classes ∙ cell_same d row b 0 in_row byte

  pub named_here : slice_index_or cells (row + slice_index_or classes b 0) 0 ≢ quit →
      row_of (slice_index_or cells (row + slice_index_or classes b 0) 0) + d.width ≤ length d.cells.items
  named_here ne =
      let here = slice_index_or cells (row + slice_index_or classes b 0) 0 in
      named_row d.width (length d.cells.items) here
      (subst (λ c. IsNamed d.width (length d.cells.items) c) (sym here_is) (cell_named d row b in_row byte)) ne

pub row_within : (m : Machine) (states : List State) (d : Table) (row : ℕ) (s : State) → IsTable m states d → IsRow d states row s → InRow d row
row_within m states d row s ok r =
    let lt = slice_get_within states r.0 s r.1 in
    let e = r.2 in
    let n = ok.rows in
    let le = mul-le-mul_right {n = length states} d.width lt in
    omega (arith, e, n, le)

hint_small : (skips : Bool) → (if skips then skip else 0) ≤ skip
hint_small true = omega arith
hint_small false = omega arith

module _ (m : Machine) (states : List State) (d : Table) (cell : ℕ) (s : State) (ok : IsTable m states d) (n : Names d states cell s) where
  below : n.0 + 1 < skip
  below =
      let r = row_within m states d n.0 s ok n.1 in
      let w = wide d in
      let l = d.small in
      omega (arith, r, w, l)

  abbrev hint : ℕ
  hint = if n.2 then skip else 0

  named : IsName (n.0 + hint) cell (is_some s.matched) (is_dead s)
  named =
      let low = below in
      let h : hint ≤ skip = hint_small n.2 in
      let e : cell ≡ n.0 + marks s + hint = n.3 in
      record { low = omega (arith, low, h); is = omega (arith, e) }

  pub named_state : IsRow d states (row_of cell) s
  named_state =
      let low = below in
      subst (λ r. IsRow d states r s) (sym (name_row n.0 cell (is_some s.matched) (is_dead s) n.2 (omega (arith, low)) n.3)) n.1

  pub died_or_not : has_died cell ≡ is_dead s
  died_or_not = name_died (n.0 + hint) cell (is_some s.matched) (is_dead s) named

  pub was_met : nat_le met cell ≡ is_some s.matched
  was_met = name_met (n.0 + hint) cell (is_some s.matched) (is_dead s) named

  pub is_read : cell ≢ quit
  is_read = name_read (n.0 + hint) cell (is_some s.matched) (is_dead s) named

-- THE STATE OF A ROW

pub row_number : (d : Table) (row id : ℕ) → row ≡ id * d.width → row / d.width ≡ id
row_number d row id e = let w = wide d in rw e (mul-div_cancel id w)

-- the row of a state in which a search may rest
pub idle_row : (m : Machine) (states : List State) (d : Table) (row : ℕ) (s : State) → IsTable m states d → IsRow d states row s →
    slice_index_or d.idles.items (row / d.width) false ≡ true → is_idle s ≡ true
idle_row m states d row s ok r e =
    sym (get_or_from_slice_get d.idles.items r.0 (is_idle s) false (ok.idles r.0 s r.1))
    ∙ ap (λ n. slice_index_or d.idles.items n false) (sym (row_number d row r.0 r.2)) ∙ e

-- what was found before it
pub tells_it : (m : Machine) (states : List State) (d : Table) (row : ℕ) (s : State) (k : ℕ) → IsTable m states d → IsRow d states row s → s.matched ≡ Some k →
    slice_index_or d.tells.items (row / d.width) 0 ≡ k + 1
tells_it m states d row s k ok r e =
    ap (λ n. slice_index_or d.tells.items n 0) (row_number d row r.0 r.2)
    ∙ get_or_from_slice_get d.tells.items r.0 (code_of s.matched) 0 (ok.tells r.0 s r.1) ∙ ap code_of e

-- what is found at the end
pub ends_so : (m : Machine) (states : List State) (d : Table) (row : ℕ) (s : State) → IsTable m states d → IsRow d states row s →
    (t : State) × Leads m s None t × (slice_index_or d.ends.items (row / d.width) 0 ≡ code_of t.matched)
ends_so m states d row s ok r =
    let e = ok.ends r.0 s r.1 in (
      e.0,
      e.1,
      ap (λ n. slice_index_or d.ends.items n 0) (row_number d row r.0 r.2) ∙ get_or_from_slice_get d.ends.items r.0 (code_of e.0.matched) 0 e.2,
    )
