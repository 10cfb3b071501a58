-- The text of a list, up to its closing `]`.
use Rattle.std.proofs.Common.{◌≡◌, ℕ, ◌+◌, ◌<◌, ◌≤◌, Bool, true, false, not, ◌==◌, ◌&&◌, [], ◌∷◌, ◌++◌, length, take, drop, get_or, refl, ap, sym, ◌∙◌, append_assoc, append-nil}
use Rattle.std.proofs.lemmas.List.{drop_more, take_more, drop_all}
use Rattle.rc_tokens.specs.Text.{Characters}
use Rattle.rc_tokens.specs.Lexer.{inner, after_inner}
use Rattle.rc_tokens.proofs.TextLemmas.{take_few}

-- the first i characters stand within, and after them `p` says whether a `\` came last
pub record Within (t : Characters) (i : ℕ) (p : Bool) : Type 0 where
  pub front : inner false t ≡ take i t ++ inner p (drop i t)
  pub rest : after_inner false t ≡ after_inner p (drop i t)

pub within_none : (t : Characters) → Within t 0 false
within_none t = record { front = refl; rest = refl }

step : (t : Characters) (i : ℕ) (p q : Bool) → i < length t → inner p (get_or t i 0 ∷ drop (i + 1) t) ≡ get_or t i 0 ∷ inner q (drop (i + 1) t) →
    after_inner p (get_or t i 0 ∷ drop (i + 1) t) ≡ after_inner q (drop (i + 1) t) → Within t i p → Within t (i + 1) q
step t i p q h e f w = record {
  front = w.front ∙ ap (λ s. take i t ++ inner p s) (drop_more t i 0 h) ∙ ap (λ s. take i t ++ s) e
      ∙ sym (append_assoc (take i t) (get_or t i 0 ∷ []) (inner q (drop (i + 1) t))) ∙ ap (λ s. s ++ inner q (drop (i + 1) t)) (sym (take_more t i 0 h));
  rest = w.rest ∙ ap (after_inner p) (drop_more t i 0 h) ∙ f;
}

pub within_more : (t : Characters) (i : ℕ) (p : Bool) → i < length t → (not p && get_or t i 0 == 93) ≡ false → Within t i p →
    Within t (i + 1) (not p && get_or t i 0 == 92)
within_more t i true h e w = step t i true false h refl refl w
within_more t i false h e w = step t i false (get_or t i 0 == 92) h (rw e refl) (rw e refl) w

pub within_until : (t : Characters) (i : ℕ) (p : Bool) → i < length t → (not p && get_or t i 0 == 93) ≡ true → Within t i p →
    (inner false t ≡ take i t) × (after_inner false t ≡ drop i t)
within_until t i true h e w = absurd (cc)
within_until t i false h e w = (
  w.front ∙ ap (λ s. take i t ++ inner false s) (drop_more t i 0 h) ∙ ap (λ s. take i t ++ s) (rw e refl) ∙ append-nil (take i t),
  w.rest ∙ ap (after_inner false) (drop_more t i 0 h) ∙ rw e refl ∙ sym (drop_more t i 0 h),
)

pub within_all : (t : Characters) (i : ℕ) (p : Bool) → length t ≤ i → Within t i p → (inner false t ≡ t) × (after_inner false t ≡ [])
within_all t i p h w =
    (w.front ∙ ap (λ s. take i t ++ inner p s) (drop_all i t h) ∙ append-nil (take i t) ∙ take_few t i h, w.rest ∙ ap (after_inner p) (drop_all i t h))
