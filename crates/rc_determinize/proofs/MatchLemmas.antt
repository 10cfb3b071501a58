-- The match places among those that were entered.
use Rattle.std.proofs.Common.{◌≡◌, ℕ, ◌+◌, ◌<◌, ◌≤◌, ◌↔◌, List, [], ◌∷◌, ◌++◌, length, slice_index, true, false, true≢false, IsTrue, inl, ⊎_elim, sym, subst, ap, ◌∙◌, arith}
use Rattle.std.proofs.lemmas.Bool.{cases_eq}
use Rattle.rc_program.specs.Program.{Place}
use Rattle.rc_determinize.specs.Steps.{HasPlace}
use Rattle.rc_determinize.specs.States.{is_match}
use Rattle.rc_determinize.proofs.MachineLemmas.{has_parts, has_left, has_right}
use Rattle.rc_determinize.proofs.SparseLemmas.{has_at, index_of}

-- the list has the match places among the first i
pub record AreMatched (places : List Place) (items list : List ℕ) (i : ℕ) : Type 0 where
  pub few : i ≤ length items
  pub members : (q : ℕ) → HasPlace q list ↔ ((k : ℕ) × (k < i) × (slice_index items k ≡ q) × IsTrue (is_match places q))

pub none_matched : (places : List Place) (items list : List ℕ) → list ≡ [] → AreMatched places items list 0
none_matched places items list e =
    rw e (record { few = omega arith; members = λ q. ((λ h. absurd h), (λ h. let lt = h.1 in absurd (omega (arith, lt)))) })

pub one_matched : (places : List Place) (items list list2 : List ℕ) (i p : ℕ) → i < length items → p ≡ slice_index items i → is_match places p ≡ true →
    list2 ≡ list ++ p ∷ [] → AreMatched places items list i → AreMatched places items list2 (i + 1)
one_matched places items list list2 i p inside at is e v = rw e (record {
  few = omega (arith, inside);
  members = λ q. let m = v.members q in (
    (λ h. ⊎_elim
        (λ x. let r = m.0 x in let lt = r.1 in (r.0, omega (arith, lt), r.2, r.3))
        (λ y. ⊎_elim (λ f. (i, omega arith, sym at ∙ f, subst (λ k. IsTrue (is_match places k)) f is)) (λ never. absurd never) y)
        (has_parts q list (p ∷ []) h)),
    (λ h. let lt = h.1 in
        ⊎_elim
        (λ same. has_right q list (p ∷ []) (inl (at ∙ ap (λ k. slice_index items k) (sym same) ∙ h.2)))
        (λ ne. has_left q list (p ∷ []) (m.1 (h.0, omega (arith, lt, ne), h.2, h.3)))
        (cases_eq h.0 i)),
  );
})

pub not_matched : (places : List Place) (items list : List ℕ) (i p : ℕ) → i < length items → p ≡ slice_index items i → is_match places p ≡ false →
    AreMatched places items list i → AreMatched places items list (i + 1)
not_matched places items list i p inside at is v = record {
  few = omega (arith, inside);
  members = λ q. let m = v.members q in (
    (λ h. let r = m.0 h in let lt = r.1 in (r.0, omega (arith, lt), r.2, r.3)),
    (λ h. let lt = h.1 in
        ⊎_elim
        (λ same. absurd (true≢false (sym h.3 ∙ ap (λ k. is_match places k) (sym h.2 ∙ ap (λ k. slice_index items k) same ∙ sym at) ∙ is)))
        (λ ne. m.1 (h.0, omega (arith, lt, ne), h.2, h.3))
        (cases_eq h.0 i)),
  );
}

pub all_matched : (places : List Place) (items list : List ℕ) (i : ℕ) → length items ≤ i → AreMatched places items list i →
    (q : ℕ) → HasPlace q list ↔ (HasPlace q items × IsTrue (is_match places q))
all_matched places items list i past v q =
    let m = v.members q in
    let few = v.few in (
      (λ h. let r = m.0 h in let lt = r.1 in (subst (λ k. HasPlace k items) r.2 (has_at items r.0 (omega (arith, lt, few))), r.3)),
      (λ h. let r = index_of items q h.0 in let lt = r.1 in m.1 (r.0, omega (arith, lt, past), r.2, h.1)),
    )
