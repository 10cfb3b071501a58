-- Texts of flags, and names.
use Rattle.std.proofs.Common.{◌≡◌, ℕ, ◌+◌, ◌-◌, ◌<◌, ◌≤◌, Bool, true, false, not, ◌&&◌, ◌==◌, [], ◌∷◌, Option, Some, None, length, drop, get_or, refl, ap, sym, ◌∙◌, arith, if◌then◌else◌, length-drop}
use Rattle.std.proofs.Math.Dec.{eqb-suc-zero}
use Rattle.std.proofs.lemmas.List.{drop_more, drop_all}
use Rattle.rc_tokens.specs.Text.{Characters, ◌>>=◌, ◌>>◌, is_empty, each}
use Rattle.rc_tokens.specs.Marks.{unchanged, letter_change, change_of, flags_of, begins_name, goes_on_name, is_name}
use Rattle.rc_tokens.specs.Lexer.{flag}
use Rattle.rc_tokens.specs.declared.tokens.Change.{Change}

pub flags_of_full : (f : Characters) → 0 < length f → flags_of f ≡ change_of true unchanged f
flags_of_full [] h = absurd (omega (arith, h))
flags_of_full (c ∷ f) h = refl

pub flags_of_none : (f : Characters) → length f ≡ 0 → flags_of f ≡ None
flags_of_none [] h = refl
flags_of_none (c ∷ f) h = absurd (omega (arith, h))

last_at : (f : Characters) → is_empty f ≡ (length f == 0)
last_at [] = refl
last_at (c ∷ f) = sym (eqb-suc-zero (length f))

abbrev paired : Bool → Change → Option (Bool × Change)
paired on to = Some (on, to)

-- one character as a step
flag_first : (c : ℕ) (f : Characters) (on : Bool) (to : Change) → change_of on to (c ∷ f) ≡ (flag c (is_empty f) on to >>= λ r. change_of r.0 r.1 f)
flag_first c f on to = go (c == 45) (on && not (is_empty f)) (letter_change c on to)
  where
    go : (a b : Bool) (o : Option Change) →
        (if a then (b >> change_of false to f) else (o >>= λ next. change_of on next f))
        ≡ ((if a then (b >> paired false to) else (o >>= paired on)) >>= λ r. change_of r.0 r.1 f)
    go true true o = refl
    go true false o = refl
    go false b None = refl
    go false b (Some next) = refl

flag_step : (f : Characters) (i : ℕ) (on : Bool) (to : Change) (c : ℕ) → i < length f → c ≡ get_or f i c →
    change_of on to (drop i f) ≡ (flag c (length f - (i + 1) == 0) on to >>= λ r. change_of r.0 r.1 (drop (i + 1) f))
flag_step f i on to c h is = ap (change_of on to) (drop_more f i c h ∙ ap (λ d. d ∷ drop (i + 1) f) (sym is))
    ∙ flag_first c (drop (i + 1) f) on to
    ∙ ap (λ b. flag c b on to >>= λ r. change_of r.0 r.1 (drop (i + 1) f)) (last_at (drop (i + 1) f) ∙ ap (λ n. n == 0) (length-drop (i + 1) f))

pub flag_goes : (f : Characters) (i : ℕ) (on : Bool) (to : Change) (c : ℕ) (o : Option (Bool × Change)) (r : Bool × Change) → i < length f →
    c ≡ get_or f i c → o ≡ flag c (length f - (i + 1) == 0) on to → o ≡ Some r →
    change_of on to (drop i f) ≡ change_of r.0 r.1 (drop (i + 1) f)
flag_goes f i on to c o r h at e is = flag_step f i on to c h at ∙ ap (λ o. o >>= λ r. change_of r.0 r.1 (drop (i + 1) f)) (sym e ∙ is)

pub flag_fails : (f : Characters) (i : ℕ) (on : Bool) (to : Change) (c : ℕ) (o : Option (Bool × Change)) → i < length f →
    c ≡ get_or f i c → o ≡ flag c (length f - (i + 1) == 0) on to → o ≡ None → change_of on to (drop i f) ≡ None
flag_fails f i on to c o h at e is = flag_step f i on to c h at ∙ ap (λ o. o >>= λ r. change_of r.0 r.1 (drop (i + 1) f)) (sym e ∙ is)

pub flags_end : (f : Characters) (i : ℕ) (on : Bool) (to : Change) → length f ≤ i → change_of on to (drop i f) ≡ Some to
flags_end f i on to h = ap (change_of on to) (drop_all i f h)

pub name_is : (t : Characters) (c : ℕ) (rest : Characters) → t ≡ c ∷ rest → is_name t ≡ (begins_name c && each goes_on_name rest)
name_is t c rest e = ap is_name e

pub name_none : (t : Characters) → t ≡ [] → is_name t ≡ false
name_none t e = ap is_name e
