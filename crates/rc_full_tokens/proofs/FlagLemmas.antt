-- Texts of flags, a character at a time.
use Rattle.std.proofs.Common.{◌≡◌, ℕ, ◌+◌, ◌-◌, ◌<◌, ◌≤◌, Bool, true, false, not, ◌&&◌, ◌==◌, [], ◌∷◌, Option, Some, None, length, drop, get_or, refl, ap, sym, ◌∙◌, if◌then◌else◌, length-drop}
use Rattle.std.proofs.Math.Dec.{eqb-suc-zero}
use Rattle.std.proofs.lemmas.List.{drop_more, drop_all}
use Rattle.rc_tokens.specs.Text.{Characters, ◌>>=◌, ◌>>◌, is_empty}
use Rattle.rc_full_tokens.specs.Flags.{flag, flag_change, flag_changes}
use Rattle.rc_full_tokens.specs.declared.flags.FlagChange.{FlagChange}

last_at : (f : Characters) → is_empty f ≡ (length f == 0)
last_at [] = refl
last_at (c ∷ f) = sym (eqb-suc-zero (length f))

abbrev paired : Bool → FlagChange → Option (Bool × FlagChange)
paired on to = Some (on, to)

flag_first : (c : ℕ) (f : Characters) (on : Bool) (to : FlagChange) →
    flag_changes on to (c ∷ f) ≡ (flag c (is_empty f) on to >>= λ r. flag_changes r.0 r.1 f)
flag_first c f on to = go (c == 45) (on && not (is_empty f)) (flag_change c on to)
  where
    go : (a b : Bool) (o : Option FlagChange) →
        (if a then (b >> flag_changes false to f) else (o >>= λ next. flag_changes on next f))
        ≡ ((if a then (b >> paired false to) else (o >>= paired on)) >>= λ r. flag_changes r.0 r.1 f)
    go true true o = refl
    go true false o = refl
    go false b None = refl
    go false b (Some next) = refl

flag_step : (f : Characters) (i : ℕ) (on : Bool) (to : FlagChange) (c : ℕ) → i < length f → c ≡ get_or f i c →
    flag_changes on to (drop i f) ≡ (flag c (length f - (i + 1) == 0) on to >>= λ r. flag_changes r.0 r.1 (drop (i + 1) f))
flag_step f i on to c h is = ap (flag_changes on to) (drop_more f i c h ∙ ap (λ d. d ∷ drop (i + 1) f) (sym is))
    ∙ flag_first c (drop (i + 1) f) on to
    ∙ ap (λ b. flag c b on to >>= λ r. flag_changes r.0 r.1 (drop (i + 1) f)) (last_at (drop (i + 1) f) ∙ ap (λ n. n == 0) (length-drop (i + 1) f))

pub flag_goes : (f : Characters) (i : ℕ) (on : Bool) (to : FlagChange) (c : ℕ) (o : Option (Bool × FlagChange)) (r : Bool × FlagChange) → i < length f →
    c ≡ get_or f i c → o ≡ flag c (length f - (i + 1) == 0) on to → o ≡ Some r →
    flag_changes on to (drop i f) ≡ flag_changes r.0 r.1 (drop (i + 1) f)
flag_goes f i on to c o r h at e is = flag_step f i on to c h at ∙ ap (λ o. o >>= λ r. flag_changes r.0 r.1 (drop (i + 1) f)) (sym e ∙ is)

pub flag_fails : (f : Characters) (i : ℕ) (on : Bool) (to : FlagChange) (c : ℕ) (o : Option (Bool × FlagChange)) → i < length f →
    c ≡ get_or f i c → o ≡ flag c (length f - (i + 1) == 0) on to → o ≡ None → flag_changes on to (drop i f) ≡ None
flag_fails f i on to c o h at e is = flag_step f i on to c h at ∙ ap (λ o. o >>= λ r. flag_changes r.0 r.1 (drop (i + 1) f)) (sym e ∙ is)

pub flags_end : (f : Characters) (i : ℕ) (on : Bool) (to : FlagChange) → length f ≤ i → flag_changes on to (drop i f) ≡ Some to
flags_end f i on to h = ap (flag_changes on to) (drop_all i f h)
