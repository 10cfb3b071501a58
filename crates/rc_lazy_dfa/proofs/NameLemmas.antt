-- The cells that lead to states.
use Rattle.std.proofs.Common.{◌≡◌, ◌≢◌, ℕ, ◌+◌, ◌*◌, ◌<◌, ◌≤◌, Bool, true, false, true≢false, is_some, nat_le, if◌then◌else◌, [], ◌∷◌, length, Some, slice_get, inl, inr, refl, sym, subst, ap, ◌∙◌, arith}
use Rattle.std.proofs.lemmas.Bool.Decides.{nat_tests}
use Rattle.rc_determinize.specs.States.{State}
use Rattle.rc_dfa.specs.Machine.{is_dead}
use Rattle.rc_dfa.proofs.ListLemmas.{get_more, get_last}
use Rattle.rc_lazy_dfa.specs.Cells.{unknown, dead, met, quit, row_of, has_died, marks}
use Rattle.rc_lazy_dfa.specs.Stores.{Frame, Held, IsRow, Names}
use Rattle.rc_lazy_dfa.specs.Moves.{HasRoom, Adds, IsNamed}
use Rattle.rc_lazy_dfa.specs.declared.store.Store.{Store}
use Rattle.rc_lazy_dfa.proofs.RowLemmas.{row_small}

-- where it was added
pub named_after : (f : Frame) (old found mid new : Store) (s : State) (row mark weight : ℕ) (kept : Bool) → mark ≡ marks s → found.states ≡ old.states →
    HasRoom found mid weight kept → Adds f mid new s row → IsNamed f old new s (record { cell = row + mark; kept = kept })
named_after f old found mid new s row mark weight kept is same room a = record {
  names = inr (row, (length mid.states, subst (λ xs. slice_get xs (length mid.states) ≡ Some s) (sym a.states) (get_last mid.states s), a.at), ap (λ k. row + k) is);
  grows = λ e id t h.
      let r : HasRoom found mid weight true = subst (λ b. HasRoom found mid weight b) e room in
      subst (λ xs. slice_get xs id ≡ Some t) (sym a.states)
      (get_more mid.states (s ∷ []) id t (subst (λ (st : Store). slice_get st.states id ≡ Some t) (sym r.0) (subst (λ xs. slice_get xs id ≡ Some t) (sym same) h)));
}

-- where it was there
pub number_small : (f : Frame) (s : Store) (number : ℕ) (t : State) → Held f s → slice_get s.states number ≡ Some t → number * s.width + s.width < unknown
number_small f s number t h e =
    subst (λ w. number * w + w < unknown) (sym h.width) (row_small f s h (number * f.width) t (number, e, refl))

pub marks_small : (s : State) → marks s ≤ 13835058055282163712
marks_small s = small (is_some s.matched) (is_dead s)
  where
    small : (stopped died : Bool) → (if stopped then met else 0) + (if died then dead else 0) ≤ 13835058055282163712
    small false false = omega arith
    small false true = omega arith
    small true false = omega arith
    small true true = omega arith

-- WHAT A CELL SAYS BY ITS NUMBER

-- the number of a name
record IsNumber (row cell : ℕ) (stopped died : Bool) : Type 0 where
  low : row < unknown
  is : cell ≡ row + ((if stopped then met else 0) + (if died then dead else 0))

number_row : (row cell : ℕ) (stopped died : Bool) → IsNumber row cell stopped died → row_of cell ≡ row
number_row row cell false false n = let l = n.low in let e : cell ≡ row + (0 + 0) = n.is in omega (arith, e, l)
number_row row cell false true n = let l = n.low in let e : cell ≡ row + (0 + dead) = n.is in omega (arith, e, l)
number_row row cell true false n = let l = n.low in let e : cell ≡ row + (met + 0) = n.is in omega (arith, e, l)
number_row row cell true true n = let l = n.low in let e : cell ≡ row + (met + dead) = n.is in omega (arith, e, l)

number_died : (row cell : ℕ) (stopped died : Bool) → IsNumber row cell stopped died → has_died cell ≡ died
number_died row cell false false n = let l = n.low in let e : cell ≡ row + (0 + 0) = n.is in grind (arith, nat_tests)
number_died row cell false true n = let l = n.low in let e : cell ≡ row + (0 + dead) = n.is in grind (arith, nat_tests)
number_died row cell true false n = let l = n.low in let e : cell ≡ row + (met + 0) = n.is in grind (arith, nat_tests)
number_died row cell true true n = let l = n.low in let e : cell ≡ row + (met + dead) = n.is in grind (arith, nat_tests)

number_met : (row cell : ℕ) (stopped died : Bool) → IsNumber row cell stopped died → nat_le met cell ≡ stopped
number_met row cell false false n = let l = n.low in let e : cell ≡ row + (0 + 0) = n.is in grind (arith, nat_tests)
number_met row cell false true n = let l = n.low in let e : cell ≡ row + (0 + dead) = n.is in grind (arith, nat_tests)
number_met row cell true false n = let l = n.low in let e : cell ≡ row + (met + 0) = n.is in grind (arith, nat_tests)
number_met row cell true true n = let l = n.low in let e : cell ≡ row + (met + dead) = n.is in grind (arith, nat_tests)

number_read : (row cell : ℕ) (stopped died : Bool) → IsNumber row cell stopped died → (cell ≢ quit) × (cell ≢ unknown)
number_read row cell false false n = let l = n.low in let e : cell ≡ row + (0 + 0) = n.is in ((λ q. omega (arith, e, l, q)), (λ q. omega (arith, e, l, q)))
number_read row cell false true n = let l = n.low in let e : cell ≡ row + (0 + dead) = n.is in ((λ q. omega (arith, e, l, q)), (λ q. omega (arith, e, l, q)))
number_read row cell true false n = let l = n.low in let e : cell ≡ row + (met + 0) = n.is in ((λ q. omega (arith, e, l, q)), (λ q. omega (arith, e, l, q)))
number_read row cell true true n = let l = n.low in let e : cell ≡ row + (met + dead) = n.is in ((λ q. omega (arith, e, l, q)), (λ q. omega (arith, e, l, q)))

module _ (f : Frame) (s : Store) (h : Held f s) (cell : ℕ) (t : State) where
  number : (row : ℕ) → IsRow f.width s.states row t → cell ≡ row + marks t → IsNumber row cell (is_some t.matched) (is_dead t)
  number row r e = record { low = let l = row_small f s h row t r in omega (arith, l); is = e }

  pub is_read : Names f.width s.states cell t → (cell ≢ quit) × (cell ≢ unknown)
  is_read (inl n) = let e = n.0 in ((λ q. omega (arith, e, q)), (λ q. omega (arith, e, q)))
  is_read (inr n) = number_read n.0 cell (is_some t.matched) (is_dead t) (number n.0 n.1 n.2)

  pub died_or_not : Names f.width s.states cell t → has_died cell ≡ is_dead t
  died_or_not (inl n) = ap has_died n.0 ∙ sym n.1
  died_or_not (inr n) = number_died n.0 cell (is_some t.matched) (is_dead t) (number n.0 n.1 n.2)

  pub met_or_not : Names f.width s.states cell t → nat_le met cell ≡ is_some t.matched
  met_or_not (inl n) = ap (λ c. nat_le met c) n.0 ∙ sym (ap is_some n.2)
  met_or_not (inr n) = number_met n.0 cell (is_some t.matched) (is_dead t) (number n.0 n.1 n.2)

  -- the row, where something goes on or was met
  pub named_row : Names f.width s.states cell t → cell ≢ dead → IsRow f.width s.states (row_of cell) t
  named_row (inl n) ne = absurd (ne n.0)
  named_row (inr n) ne =
      subst (λ r. IsRow f.width s.states r t) (sym (number_row n.0 cell (is_some t.matched) (is_dead t) (number n.0 n.1 n.2))) n.1

  pub row_going : Names f.width s.states cell t → has_died cell ≡ false → IsRow f.width s.states (row_of cell) t
  row_going n e = named_row n (λ is. true≢false (sym (ap has_died is) ∙ e))

  pub row_met : Names f.width s.states cell t → met ≤ cell → IsRow f.width s.states (row_of cell) t
  row_met n le = named_row n (λ is. omega (arith, is, le))
