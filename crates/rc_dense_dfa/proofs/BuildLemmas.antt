-- What is told of each row.
use Rattle.std.proofs.Common.{◌≡◌, inl, inr, ℕ, ◌+◌, ◌*◌, ◌<◌, ◌≤◌, List, [], ◌∷◌, ◌++◌, length, Some, slice_get, slice_index_or, sym, ap, ◌∙◌, arith}
use Rattle.std.proofs.Math.Nat.{mul-le-mul_left}
use Rattle.std.proofs.lemmas.Bool.{cases_lt}
use Rattle.std.proofs.lemmas.List.{length_push}
use Rattle.std.proofs.lemmas.Option.{slice_get-get_or, slice_get_within}
use Rattle.rc_determinize.specs.States.{State}
use Rattle.rc_dfa.specs.Machine.{Machine}
use Rattle.rc_dense_dfa.specs.Tables.{code_of, dead_state}
use Rattle.rc_dense_dfa.specs.Rows.{AreEnds, AreTells, IsEndOf}
use Rattle.rc_dense_dfa.proofs.FillLemmas.{Kept}
use Rattle.rc_dfa.proofs.ListLemmas.{get_more, get_last}

at_end : (xs : List ℕ) (x id : ℕ) → id ≡ length xs → slice_get (xs ++ x ∷ []) id ≡ Some x
at_end xs x id e = ap (λ i. slice_get (xs ++ x ∷ []) i) e ∙ get_last xs x

pub end_more : (m : Machine) (states : List State) (ends : List ℕ) (number code : ℕ) → length ends ≡ number → AreEnds m states ends →
    IsEndOf m states number code → AreEnds m states (ends ++ code ∷ [])
end_more m states ends number code len a e = λ id s lt at. elim (cases_lt id (length ends)) [
  | inl old ↦ let h = a id s old at in (h.0, h.1, get_more ends (code ∷ []) id _ h.2)
  | inr past ↦
      let grown = length_push ends code in
      let last : id ≡ length ends = omega (arith, past, lt, grown) in
      let f = e s (ap (λ i. slice_get states i) (sym (last ∙ len)) ∙ at) in
      (f.0, f.1, at_end ends code id last ∙ ap Some f.2)
]

pub ends_kept : (m : Machine) (old new : List State) (ends : List ℕ) → Kept old new → length ends ≤ length old → AreEnds m old ends → AreEnds m new ends
ends_kept m old new ends k few a = λ id s lt at.
    let inside : id < length old = omega (arith, lt, few) in
    let there = slice_get-get_or old id dead_state inside in
    let moved = k id _ there in
    let same : slice_index_or old id dead_state ≡ s = cc in
    a id s lt (there ∙ ap Some same)

pub tell_more : (states : List State) (tells : List ℕ) (s : State) (number code : ℕ) → length tells ≡ number → AreTells states tells →
    slice_get states number ≡ Some s → code ≡ code_of s.matched → AreTells states (tells ++ code ∷ [])
tell_more states tells s number code len a there e = λ id t lt at. elim (cases_lt id (length tells)) [
  | inl old ↦ get_more tells (code ∷ []) id _ (a id t old at)
  | inr past ↦
      let grown = length_push tells code in
      let last : id ≡ length tells = omega (arith, past, lt, grown) in
      let same_at : slice_get states number ≡ Some t = ap (λ i. slice_get states i) (sym (last ∙ len)) ∙ at in
      let same : s ≡ t = cc in
      at_end tells code id last ∙ ap Some (e ∙ ap (λ (u : State). code_of u.matched) same)
]

-- there are no more rows than the cells below the marks
pub few_rows : (n w : ℕ) → 0 < w → n * w < 2305843009213693952 → n < 2305843009213693952
few_rows n w wide small = let product : n * 1 ≤ n * w = mul-le-mul_left n wide in omega (arith, product, small)

-- of one state that is there, the number is 0
pub first_of : (old new : List State) (id : ℕ) (s : State) → old ≡ [] → length new ≤ length old + 1 → slice_get new id ≡ Some s → slice_get new 0 ≡ Some s
first_of old new id s none few e =
    let within = slice_get_within new id s e in
    let empty = ap length none in
    let first : 0 ≡ id = omega (arith, within, few, empty) in
    ap (λ i. slice_get new i) first ∙ e
