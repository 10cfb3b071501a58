-- Why a text is no list.
use Rattle.std.proofs.Common.{◌≡◌, ◌⊎◌, ⊎_elim, inl, inr, ℕ, ◌≤◌, Bool, Some, None, Result, Ok, Err, MatchResult, subst, sym, ap, ◌∙◌}
use Rattle.std.specs.Result.{IsErrAnd}
use Rattle.rc_tokens.specs.Text.{Characters}
use Rattle.rc_tokens.specs.declared.refusal.Refusal.{Refusal}
use Rattle.rc_tokens.specs.declared.refusal.Refusal.TheVariants.{Memory}
use Rattle.rc_class_sets.specs.Sets.{CodeSet}
use Rattle.rc_full_lists.specs.declared.parts.Settings.{Settings}
use Rattle.rc_full_lists.specs.declared.parts.Part.{Part}
use Rattle.rc_full_lists.specs.Lists.{IsList}
use Rattle.rc_full_lists.specs.Read.{passed, read_part}
use Rattle.rc_full_lists.specs.Levels.{Levels, IsTooDeep}
use Rattle.rc_full_lists.proofs.ListLemmas.{Same, same_stuck, same_deep}

-- memory ran out, or there is no list within the limit
abbrev pub Refused : Settings → Bool → ℕ → Characters → Refusal → Type 0
Refused s fold limit text e =
    (e ≡ Memory) ⊎ ((p : CodeSet) (d : ℕ) (u : Characters) → IsList s fold text p d u → d ≤ limit → ⊥)

pub err_is : {A : Type 0} (r : Result A Refusal) (e : Refusal) (P : A → Type 0) (Q : Refusal → Type 0) → IsErrAnd r (λ x. x ≡ e) → Q e → MatchResult r P Q
err_is (Ok a) e P Q h q = absurd h
err_is (Err x) e P Q h q = subst Q (sym h) q

pub stuck : (s : Settings) (fold : Bool) (limit : ℕ) (text : Characters) (ls : Levels) (t : Characters) (e : Refusal) → Same s fold text ls t →
    (e ≡ Memory) ⊎ (read_part s (passed s.verbose t) ≡ None) → Refused s fold limit text e
stuck s fold limit text ls t e same h = ⊎_elim (λ m. inl m) (λ n. inr (λ p d u l within. same_stuck s fold text ls t same n p d u l)) h

pub deep : (s : Settings) (fold : Bool) (limit : ℕ) (text : Characters) (ls : Levels) (t b : Characters) (k : Part) (e : Refusal) → Same s fold text ls t →
    read_part s (passed s.verbose t) ≡ Some (k, b) → (e ≡ Memory) ⊎ IsTooDeep limit ls k → Refused s fold limit text e
deep s fold limit text ls t b k e same begins h =
    ⊎_elim (λ m. inl m) (λ (opens, few). inr (same_deep s fold text limit ls t b same (begins ∙ ap (λ x. Some (x, b)) opens) few)) h
