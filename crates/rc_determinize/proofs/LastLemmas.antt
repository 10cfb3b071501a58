-- The match places of a program, of one pattern or of all, in rising order.
use Rattle.std.proofs.Common.{◌≡◌, ℕ, ◌+◌, ◌<◌, ◌≤◌, ◌↔◌, List, [], ◌∷◌, ◌++◌, length, Option, Some, None, true, false, true≢false, IsTrue, Bool, inl, ⊎_elim, sym, subst, ap, ◌∙◌, refl, arith}
use Rattle.std.proofs.lemmas.Bool.{cases_eq, cases_lt}
use Rattle.rc_program.specs.Program.{Place, choice, place_at, is_match_place}
use Rattle.rc_program.proofs.WayLemmas.{past_places}
use Rattle.rc_determinize.specs.Steps.{HasPlace, IsRising, AreBelow}
use Rattle.rc_determinize.proofs.MachineLemmas.{has_parts, has_left, has_right}
use Rattle.rc_determinize.proofs.RiseLemmas.{rising_push}

-- whether it is a match place; of this pattern, if one is asked for
abbrev pub counts : Option ℕ → List Place → ℕ → Bool
counts only places q = is_match_place only (place_at places q)

-- the match places below i
pub record AreMatches (only : Option ℕ) (places : List Place) (list : List ℕ) (i : ℕ) : Type 0 where
  pub rising : IsRising list
  pub below : AreBelow i list
  pub members : (q : ℕ) → q < i → HasPlace q list ↔ IsTrue (counts only places q)

pub none_yet : (only : Option ℕ) (places : List Place) (list : List ℕ) → list ≡ [] → AreMatches only places list 0
none_yet only places list e = rw e (record { rising = tt; below = λ q h. absurd h; members = λ q h. absurd (omega (arith, h)) })

pub one_more : (only : Option ℕ) (places : List Place) (list list2 : List ℕ) (i : ℕ) → counts only places i ≡ true → list2 ≡ list ++ i ∷ [] → AreMatches only places list i →
    AreMatches only places list2 (i + 1)
one_more only places list list2 i is e v = rw e (record {
  rising = rising_push list i v.rising v.below;
  below = λ q h. ⊎_elim (λ x. let b = v.below q x in omega (arith, b)) (λ y. ⊎_elim (λ f. omega (arith, f)) (λ never. absurd never) y) (has_parts q list (i ∷ []) h);
  members = λ q lt. ⊎_elim
      (λ same. subst (λ k. HasPlace k (list ++ i ∷ []) ↔ IsTrue (counts only places k)) same ((λ h. is), (λ h. has_right i list (i ∷ []) (inl refl))))
      (λ ne. let m = v.members q (omega (arith, lt, ne)) in (
        (λ h. ⊎_elim (λ x. m.0 x) (λ y. ⊎_elim (λ f. absurd (ne f)) (λ never. absurd never) y) (has_parts q list (i ∷ []) h)),
        (λ h. has_left q list (i ∷ []) (m.1 h)),
      ))
      (cases_eq i q);
})

pub not_one : (only : Option ℕ) (places : List Place) (list : List ℕ) (i : ℕ) → counts only places i ≡ false → AreMatches only places list i → AreMatches only places list (i + 1)
not_one only places list i is v = record {
  rising = v.rising;
  below = λ q h. let b = v.below q h in omega (arith, b);
  members = λ q lt. ⊎_elim
      (λ same. subst (λ k. HasPlace k list ↔ IsTrue (counts only places k)) same
      ((λ h. let b = v.below i h in absurd (omega (arith, b))), (λ h. absurd (true≢false (sym h ∙ is)))))
      (λ ne. v.members q (omega (arith, lt, ne))) (cases_eq i q);
}

no_place : (only : Option ℕ) → is_match_place only (choice []) ≡ false
no_place None = refl
no_place (Some p) = refl

pub all_of_them : (only : Option ℕ) (places : List Place) (list : List ℕ) (i : ℕ) → length places ≤ i → AreMatches only places list i →
    (q : ℕ) → HasPlace q list ↔ IsTrue (counts only places q)
all_of_them only places list i past v q = (
  (λ h. (v.members q (v.below q h)).0 h),
  (λ h. ⊎_elim (λ lt. (v.members q (omega (arith, lt, past))).1 h)
      (λ ge. absurd (true≢false (sym h ∙ ap (is_match_place only) (past_places places q ge) ∙ no_place only))) (cases_lt q (length places))),
)
