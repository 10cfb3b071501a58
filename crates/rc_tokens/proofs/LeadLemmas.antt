-- The hyphens at the front of a list.
use Rattle.std.proofs.Common.{◌≡◌, Bool, true, false, List, [], ◌∷◌, ◌++◌, Option, Some, None, refl, ap, sym, ◌∙◌, append_assoc}
use Rattle.rc_pattern.specs.Re.{Range}
use Rattle.rc_tokens.specs.Text.{◌>>=◌}
use Rattle.rc_tokens.specs.Classes.{led_items}
use Rattle.rc_tokens.specs.Items.{is_hyphen, more, led_more}
use Rattle.rc_tokens.specs.declared.tokens.Member.{Member}
use Rattle.rc_tokens.specs.declared.tokens.Member.TheVariants.{Character, Byte, Hyphen}
use Rattle.rc_tokens.specs.declared.tokens.Member.TheVariants as member

one_more : (o : Option (List Range)) (done : List Range) → ((o >>= λ rs. Some ((45, 45) ∷ rs)) >>= λ rs. Some (done ++ rs)) ≡ (o >>= λ rs. Some ((done ++ (45, 45) ∷ []) ++ rs))
one_more None done = refl
one_more (Some rs) done = ap Some (sym (append_assoc done ((45, 45) ∷ []) rs))

pub led_hyphen : (u : Bool) (rest : List Member) (m : Member) (tail : List Member) (done : List Range) → rest ≡ m ∷ tail → is_hyphen m ≡ true →
    led_more u rest done ≡ led_more u tail (done ++ (45, 45) ∷ [])
led_hyphen u rest Hyphen tail done e h = ap (λ x. led_more u x done) e ∙ one_more (led_items u tail) done
led_hyphen u rest (Character c) tail done e h = absurd (cc)
led_hyphen u rest (Byte b) tail done e h = absurd (cc)
led_hyphen u rest (member.Perl p) tail done e h = absurd (cc)

pub led_other : (u : Bool) (rest : List Member) (m : Member) (tail : List Member) (done : List Range) → rest ≡ m ∷ tail → is_hyphen m ≡ false →
    led_more u rest done ≡ more u false rest done
led_other u rest Hyphen tail done e h = absurd (cc)
led_other u rest (Character c) tail done e h = ap (λ x. led_more u x done) e ∙ ap (λ x. more u false x done) (sym e)
led_other u rest (Byte b) tail done e h = ap (λ x. led_more u x done) e ∙ ap (λ x. more u false x done) (sym e)
led_other u rest (member.Perl p) tail done e h = ap (λ x. led_more u x done) e ∙ ap (λ x. more u false x done) (sym e)

pub led_end : (u : Bool) (rest : List Member) (done : List Range) → rest ≡ [] → led_more u rest done ≡ more u false rest done
led_end u rest done e = ap (λ x. led_more u x done) e ∙ ap (λ x. more u false x done) (sym e)
