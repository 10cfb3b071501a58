-- The run at the front of a text.
use Rattle.std.proofs.Common.{◌≡◌, ℕ, ◌+◌, ◌<◌, Bool, true, false, [], ◌∷◌, ◌++◌, length, take, drop, get_or, refl, ap, sym, ◌∙◌, append_assoc, append-nil}
use Rattle.std.proofs.lemmas.List.{drop_more, take_more}
use Rattle.rc_tokens.specs.Text.{Characters}
use Rattle.rc_tokens.specs.Lexer.{run, after_run}

pub run_goes : (test : ℕ → Bool) (c : ℕ) (t : Characters) → test c ≡ true → run test (c ∷ t) ≡ c ∷ run test t
run_goes test c t e = rw e refl

pub run_stops : (test : ℕ → Bool) (c : ℕ) (t : Characters) → test c ≡ false → run test (c ∷ t) ≡ []
run_stops test c t e = rw e refl

pub after_goes : (test : ℕ → Bool) (c : ℕ) (t : Characters) → test c ≡ true → after_run test (c ∷ t) ≡ after_run test t
after_goes test c t e = rw e refl

pub after_stops : (test : ℕ → Bool) (c : ℕ) (t : Characters) → test c ≡ false → after_run test (c ∷ t) ≡ c ∷ t
after_stops test c t e = rw e refl

-- the first i characters pass
pub record Passed (test : ℕ → Bool) (t : Characters) (i : ℕ) : Type 0 where
  pub front : run test t ≡ take i t ++ run test (drop i t)
  pub rest : after_run test t ≡ after_run test (drop i t)

pub passed_none : (test : ℕ → Bool) (t : Characters) → Passed test t 0
passed_none test t = record { front = refl; rest = refl }

pub passed_more : (test : ℕ → Bool) (t : Characters) (i : ℕ) → i < length t → test (get_or t i 0) ≡ true → Passed test t i → Passed test t (i + 1)
passed_more test t i h e p = record {
  front = p.front ∙ ap (λ s. take i t ++ run test s) (drop_more t i 0 h) ∙ ap (λ s. take i t ++ s) (run_goes test _ _ e)
      ∙ sym (append_assoc (take i t) (get_or t i 0 ∷ []) (run test (drop (i + 1) t))) ∙ ap (λ s. s ++ run test (drop (i + 1) t)) (sym (take_more t i 0 h));
  rest = p.rest ∙ ap (after_run test) (drop_more t i 0 h) ∙ after_goes test _ _ e;
}

pub passed_until : (test : ℕ → Bool) (t : Characters) (i : ℕ) → i < length t → test (get_or t i 0) ≡ false → Passed test t i →
    (run test t ≡ take i t) × (after_run test t ≡ drop i t)
passed_until test t i h e p = (
  p.front ∙ ap (λ s. take i t ++ run test s) (drop_more t i 0 h) ∙ ap (λ s. take i t ++ s) (run_stops test _ _ e) ∙ append-nil (take i t),
  p.rest ∙ ap (after_run test) (drop_more t i 0 h) ∙ after_stops test _ _ e ∙ sym (drop_more t i 0 h),
)
