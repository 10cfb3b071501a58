-- A list of members in rising order.
use Rattle.std.proofs.Common.{◌≡◌, ℕ, ◌+◌, ◌<◌, ◌≤◌, ◌↔◌, List, [], ◌∷◌, ◌++◌, inl, inr, ⊎_elim, subst, refl, arith}
use Rattle.std.proofs.lemmas.Bool.{cases_eq}
use Rattle.rc_determinize.specs.Steps.{HasPlace, IsRising, AreBelow}
use Rattle.rc_determinize.proofs.MachineLemmas.{has_parts, has_left, has_right}

-- the list has the members below i
pub record AreRisen (items list : List ℕ) (i : ℕ) : Type 0 where
  pub rising : IsRising list
  pub below : AreBelow i list
  pub members : (q : ℕ) → q < i → HasPlace q list ↔ HasPlace q items

pub rising_push : (list : List ℕ) (i : ℕ) → IsRising list → AreBelow i list → IsRising (list ++ i ∷ [])
rising_push [] i r b = ((λ p h. absurd h), tt)
rising_push (q ∷ qs) i r b = (
  (λ p h. ⊎_elim (λ x. r.0 p x) (λ y. ⊎_elim (λ e. subst (λ k. q < k) e (b q (inl refl))) (λ never. absurd never) y) (has_parts p qs (i ∷ []) h)),
  rising_push qs i r.1 (λ p h. b p (inr h)),
)

pub none_risen : (items list : List ℕ) → list ≡ [] → AreRisen items list 0
none_risen items list e = rw e (record { rising = tt; below = λ q h. absurd h; members = λ q h. absurd (omega (arith, h)) })

pub rises_by : (items list list2 : List ℕ) (i : ℕ) → HasPlace i items → list2 ≡ list ++ i ∷ [] → AreRisen items list i → AreRisen items list2 (i + 1)
rises_by items list list2 i has e v = rw e (record {
  rising = rising_push list i v.rising v.below;
  below = λ q h. ⊎_elim (λ x. let b = v.below q x in omega (arith, b)) (λ y. ⊎_elim (λ f. omega (arith, f)) (λ never. absurd never) y) (has_parts q list (i ∷ []) h);
  members = λ q lt. ⊎_elim
      (λ same. subst (λ k. HasPlace k (list ++ i ∷ []) ↔ HasPlace k items) same ((λ h. has), (λ h. has_right i list (i ∷ []) (inl refl))))
      (λ ne. let m = v.members q (omega (arith, lt, ne)) in (
        (λ h. ⊎_elim (λ x. m.0 x) (λ y. ⊎_elim (λ f. absurd (ne f)) (λ never. absurd never) y) (has_parts q list (i ∷ []) h)),
        (λ h. has_left q list (i ∷ []) (m.1 h)),
      ))
      (cases_eq i q);
})

pub rises_on : (items list : List ℕ) (i : ℕ) → ¬ HasPlace i items → AreRisen items list i → AreRisen items list (i + 1)
rises_on items list i has v = record {
  rising = v.rising;
  below = λ q h. let b = v.below q h in omega (arith, b);
  members = λ q lt. ⊎_elim
      (λ same. subst (λ k. HasPlace k list ↔ HasPlace k items) same ((λ h. let b = v.below i h in absurd (omega (arith, b))), (λ h. absurd (has h))))
      (λ ne. v.members q (omega (arith, lt, ne))) (cases_eq i q);
}

pub all_risen : (items list : List ℕ) (n i : ℕ) → n ≤ i → AreBelow n items → AreRisen items list i → (q : ℕ) → HasPlace q list ↔ HasPlace q items
all_risen items list n i past below v q =
    ((λ h. (v.members q (v.below q h)).0 h), (λ h. let b = below q h in (v.members q (omega (arith, b, past))).1 h))
