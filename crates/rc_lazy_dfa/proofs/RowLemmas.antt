-- The rows of a table of states.
use Rattle.std.proofs.Common.{◌≡◌, ℕ, ◌+◌, ◌*◌, ◌/◌, ◌<◌, ◌≤◌, length, Some, slice_get, sym, ap, ◌∙◌, arith}
use Rattle.std.proofs.Math.Nat.{mul-le-mul_right, mul-le-mul_left, mul-div_cancel}
use Rattle.std.proofs.lemmas.Option.{slice_get_within, same_Some}
use Rattle.rc_determinize.specs.States.{State}
use Rattle.rc_lazy_dfa.specs.Cells.{unknown}
use Rattle.rc_lazy_dfa.specs.Stores.{Frame, Held, IsRow}
use Rattle.rc_lazy_dfa.specs.declared.store.Store.{Store}

-- a row and a column stand at one index alone
not_less : (n r q c d : ℕ) → c < n → r * n + c ≡ q * n + d → r < q → ⊥
not_less n r q c d lt e h =
    let step : r + 1 ≤ q = omega arith in
    let product = mul-le-mul_left n step in
    omega (arith, product)

pub same_row : (n r q c d : ℕ) → c < n → d < n → r * n + c ≡ q * n + d → r ≡ q
same_row n r q c d lt lt2 e =
    let a = not_less n r q c d lt e in
    let b = not_less n q r d c lt2 (sym e) in
    omega (arith, a, b)

pub same_column : (n r q c d : ℕ) → r ≡ q → r * n + c ≡ q * n + d → c ≡ d
same_column n r q c d rows e = let p = ap (λ k. k * n) rows in omega (arith, e, p)

pub wide : (f : Frame) (s : Store) → Held f s → 0 < s.width
wide f s h = let w = h.frame.wide in let e = h.width in omega (arith, w, e)

-- all rows stay below the numbers with a meaning of their own
pub few_rows : (f : Frame) (s : Store) → Held f s → (length s.states + 3) * f.width < unknown
few_rows f s h =
    let used = h.used in
    let light = h.light in
    let fits = h.fits in
    omega (arith, used, light, fits)

pub states_below : (f : Frame) (s : Store) → Held f s → length s.states * f.width + f.width < unknown
states_below f s h =
    let few = few_rows f s h in
    let le = mul-le-mul_right {m = length s.states + 1} {n = length s.states + 3} f.width (omega arith) in
    omega (arith, few, le)

module _ (f : Frame) (s : Store) (h : Held f s) (row : ℕ) (t : State) (r : IsRow f.width s.states row t) where
  there : r.0 < length s.states
  there = slice_get_within s.states r.0 t r.1

  pub row_inside : row + f.width ≤ length s.cells.items
  row_inside =
      let lt = there in
      let e = r.2 in
      let n = h.cells.rows in
      let le = mul-le-mul_right {n = length s.states} f.width lt in
      omega (arith, e, n, le)

  pub row_small : row + f.width < unknown
  row_small =
      let inside = row_inside in
      let n = h.cells.rows in
      let below = states_below f s h in
      omega (arith, inside, n, below)

  pub row_number : row / s.width ≡ r.0
  row_number =
      let w : 0 < f.width = h.frame.wide in
      ap (λ n. row / n) h.width ∙ ap (λ k. k / f.width) r.2 ∙ mul-div_cancel r.0 w

  -- the state of the row's number
  pub row_state : (u : State) → slice_get s.states (row / s.width) ≡ Some u → u ≡ t
  row_state u e = same_Some u t (sym e ∙ ap (λ k. slice_get s.states k) row_number ∙ r.1)

  pub row_there : length s.states ≤ row / s.width → ⊥
  row_there le = let lt = there in let e = row_number in omega (arith, lt, e, le)
