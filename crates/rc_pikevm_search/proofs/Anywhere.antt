-- The first of the matches that are left and the others, wherever the match before ended.
use Rattle.std.proofs.Common.{◌≡◌, ◌∙◌, ◌+◌, ◌-◌, ◌≤◌, ℕ, zero, suc, List, ◌∷◌, [], length, Option, Some, None, ap, refl, arith, ⊎_elim}
use Rattle.std.proofs.lemmas.Bool.{cases_Bool}
use Rattle.std.proofs.lemmas.Option.{none-some}
use Rattle.rc_program.specs.Matches
use Rattle.rc_program.proofs.MatchLemmas.{same_matches}

module _ {X : Type 0} (begin end : X → ℕ) (find : ℕ → Option X) (low high : ℕ) (within : Matches.LiesWithin begin end find low high) where
  abbrev By : ℕ → ℕ → Option ℕ → List X
  By = Matches.matches_by begin end find

  unless_ends : (k : ℕ) (last : Option ℕ) (o : Option X) (m : X) → find k ≡ o → Matches.unless_again begin end find k last o ≡ Some m →
      (k ≤ end m) × (end m ≤ high)
  unless_ends k last None m was e = absurd (none-some m e)
  unless_ends k None (Some n) m was e = let h = within k m (was ∙ e) in (omega (arith, h.0, h.2), h.3)
  unless_ends k (Some last) (Some n) m was e =
      ⊎_elim
      (λ t. let f : find (k + 1) ≡ Some m = rw t at e in
      let h = within (k + 1) m f in
      (omega (arith, h.0, h.2), h.3))
      (λ f. let g : Some n ≡ Some m = rw f at e in
      let h = within k m (was ∙ g) in
      (omega (arith, h.0, h.2), h.3))
      (cases_Bool (Matches.is_again begin end (Some last) n))

  unless_spans : (k : ℕ) (last : Option ℕ) (o : Option X) (m : X) → find k ≡ o → Matches.unless_again begin end find k last o ≡ Some m →
      (begin m ≤ end m) × (end m ≤ high)
  unless_spans k last None m was e = absurd (none-some m e)
  unless_spans k None (Some n) m was e = let h = within k m (was ∙ e) in (h.2, h.3)
  unless_spans k (Some last) (Some n) m was e =
      ⊎_elim
      (λ t. let f : find (k + 1) ≡ Some m = rw t at e in
      let h = within (k + 1) m f in
      (h.2, h.3))
      (λ f. let g : Some n ≡ Some m = rw f at e in
      let h = within k m (was ∙ g) in
      (h.2, h.3))
      (cases_Bool (Matches.is_again begin end (Some last) n))

  -- the next match ends where it begins or later, within the bound
  pub next_spans : (k : ℕ) (last : Option ℕ) (m : X) → Matches.next_match begin end find k last ≡ Some m → (begin m ≤ end m) × (end m ≤ high)
  next_spans k last m e = unless_spans k last (find k) m refl e

  first_of : (n k : ℕ) (last : Option ℕ) (m : X) → n ≡ high - k → k ≤ end m → end m ≤ high → Matches.next_match begin end find k last ≡ Some m →
      By (suc n) k last ≡ m ∷ By (high + 1 - end m) (end m) (Some (end m))
  first_of n k last m are ahead inside e =
      rw e (ap (λ ms. m ∷ ms)
      (same_matches begin end find low high within n (high + 1 - end m) (end m) (Some (end m)) refl (omega (arith, are, ahead, inside)) (omega (arith, inside))))

  pub by_some : (k : ℕ) (last : Option ℕ) (m : X) → Matches.next_match begin end find k last ≡ Some m →
      By (high + 1 - k) k last ≡ m ∷ By (high + 1 - end m) (end m) (Some (end m))
  by_some k last m e =
      let h = unless_ends k last (find k) m refl e in
      let one : high + 1 - k ≡ suc (high - k) = omega (arith, h.0, h.1) in
      ap (λ n. By n k last) one ∙ first_of (high - k) k last m refl h.0 h.1 e

  pub by_none : (n k : ℕ) (last : Option ℕ) → Matches.next_match begin end find k last ≡ None → By n k last ≡ []
  by_none zero k last e = refl
  by_none (suc n) k last e = rw e refl

  few_on : (n : ℕ) (rest : X → List X) (o : Option X) → ((m : X) → length (rest m) ≤ n) → length (Matches.and_on begin end find rest o) ≤ suc n
  few_on n rest None few = omega arith
  few_on n rest (Some m) few = let h = few m in omega (arith, h)

  pub by_few : (n k : ℕ) (last : Option ℕ) → length (By n k last) ≤ n
  by_few zero k last = omega arith
  by_few (suc n) k last =
      few_on n (λ m. By n (end m) (Some (end m))) (Matches.next_match begin end find k last) (λ m. by_few n (end m) (Some (end m)))
