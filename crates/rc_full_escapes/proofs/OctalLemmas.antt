-- The definitions of the reader of escapes at a text of a known form.
use Rattle.std.proofs.Common.{◌≡◌, ℕ, ◌≤◌, Bool, false, ◌==◌, [], ◌∷◌, None, length, refl, ap, sym, ◌∙◌}
use Rattle.rc_tokens.specs.Text.{Characters}
use Rattle.rc_tokens.specs.Lexer.{run}
use Rattle.rc_tokens.proofs.TextLemmas.{take_few}
use Rattle.rc_full_escapes.specs.Escapes.{is_octal}
use Rattle.rc_full_escapes.specs.Escaped.{octal_front, property_at, read_property, escape_at, read_escape}

pub run_few : (t : Characters) → length t ≤ 3 → run is_octal t ≡ octal_front t
run_few t h = ap (run is_octal) (sym (take_few t 3 h))

pub property_is : (negated : Bool) (t : Characters) (c : ℕ) (rest : Characters) → t ≡ c ∷ rest → read_property negated t ≡ property_at negated c rest
property_is negated t c rest e = ap (read_property negated) e

pub property_none : (negated : Bool) (t : Characters) → t ≡ [] → read_property negated t ≡ None
property_none negated t e = ap (read_property negated) e

pub escape_is : (octal : Bool) (t behind : Characters) (c : ℕ) (rest : Characters) → t ≡ 92 ∷ behind → behind ≡ c ∷ rest → read_escape octal t ≡ escape_at octal c rest
escape_is octal t behind c rest e f = ap (read_escape octal) (e ∙ ap (λ x. 92 ∷ x) f)

pub escape_none : (octal : Bool) (t : Characters) → t ≡ [] → read_escape octal t ≡ None
escape_none octal t e = ap (read_escape octal) e

pub escape_other : (octal : Bool) (t : Characters) (c : ℕ) (rest : Characters) → t ≡ c ∷ rest → (c == 92) ≡ false → read_escape octal t ≡ None
escape_other octal t c rest e f = ap (read_escape octal) e ∙ rw f refl

pub escape_end : (octal : Bool) (t behind : Characters) → t ≡ 92 ∷ behind → behind ≡ [] → read_escape octal t ≡ None
escape_end octal t behind e f = ap (read_escape octal) (e ∙ ap (λ x. 92 ∷ x) f)
