-- The fault of a whole text that is a set or `.`.
use Rattle.std.proofs.Common.{◌≡◌, ◌∷◌, [], ◌⊎◌, IfOk, IfSome, Option, Result, Some, None, Ok, Err, inl, inr, length, refl, subst, sym}
use Rattle.rc_tokens.specs.Text.{Characters}
use Rattle.rc_parser.specs.declared.config.Grammar.TheVariants.{Stated}
use Rattle.rc_explain.specs.Reading.{IsAtomFault}
use Rattle.rc_explain.specs.Shown.{HasShape, Is, IsAtom, IsSuch}
use Rattle.rc_explain.specs.declared.faults.FaultKind.{FaultKind}
use Rattle.rc_explain.specs.declared.faults.FaultKind.TheVariants.{LineTerminator, NotUtf8}
use Rattle.rc_explain.specs.declared.places.Found.{Found}
use Rattle.rc_explain.proofs.Tokens.{at_whole}

-- what is so of a value that may be there, in a result
pub ok_some : {A E : Type 0} (P Q : A → Type 0) (r : Result (Option A) E) → ((a : A) → P a → Q a) → IfOk r (λ o. IfSome o P) → IfOk r (λ o. IfSome o Q)
ok_some P Q (Ok (Some a)) f h = f a h
ok_some P Q (Ok None) f h = tt
ok_some P Q (Err e) f h = tt

stated_kind : (t : Characters) (k : FaultKind) → IsSuch IsAtom t 0 (length t) → (k ≡ NotUtf8) ⊎ ((k ≡ LineTerminator) × (t ≡ 46 ∷ [])) →
    HasShape Stated k t 0 (length t)
stated_kind t k set (inl is) = subst (λ k. HasShape Stated k t 0 (length t)) (sym is) set
stated_kind t k set (inr (is, dot)) =
    subst (λ k. HasShape Stated k t 0 (length t)) (sym is)
    (subst (λ s. Is (46 ∷ []) s 0 (length s)) (sym dot) (record { here = at_whole (46 ∷ []); ends = refl }))

stated_shown : (t : Characters) (f : Found) → IsSuch IsAtom t 0 (length t) → IsAtomFault t f → HasShape Stated f.kind t f.start f.end
stated_shown t f set h =
    subst (λ s. HasShape Stated f.kind t s f.end) (sym h.starts)
    (subst (λ e. HasShape Stated f.kind t 0 e) (sym h.ends) (stated_kind t f.kind set h.kind))

pub atom_faults : {E : Type 0} (t : Characters) (r : Result (Option Found) E) → IsSuch IsAtom t 0 (length t) → IfOk r (λ o. IfSome o (IsAtomFault t)) →
    IfOk r (λ o. IfSome o (λ f. HasShape Stated f.kind t f.start f.end))
atom_faults t r set h = ok_some (IsAtomFault t) (λ f. HasShape Stated f.kind t f.start f.end) r (λ f g. stated_shown t f set g) h
