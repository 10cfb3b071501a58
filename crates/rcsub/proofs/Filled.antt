-- Patterns that can't match nothing.
use Rattle.std.proofs.Common.{◌≡◌, ◌∙◌, ◌<◌, ◌≤◌, ◌||◌, ⊎_elim, ℕ, Bool, false, [], ◌∷◌, Option, None, Some, ap, eqb, ne_eqb, refl, sym, true≢false}
use Rattle.std.specs.Option.{option_eq}
use Rattle.std.proofs.lemmas.Bool.{cases_lt}
use Rattle.rc_pattern.specs.Re.{Re}
use Rattle.rc_pattern.specs.WellFormed.{depth}
use Rattle.rc_pattern.specs.Properties.{is_zero, minimum_len}
use Rattle.rc_pattern.specs.PropertiesOf.{IsPropertiesOf, TellNothing}
use Rattle.rc_pattern.specs.declared.hir.properties.Properties.{Properties}
use Rattle.rc_program.specs.Sought.{may_be_empty}

not_zero : (o : Option ℕ) → ¬ (o ≡ Some 0) → is_zero o ≡ false
not_zero None some = refl
not_zero (Some n) some = ne_eqb n 0 (λ e. some (ap Some e))

-- a least length that isn't equal to 0
pub is_some_length : (b : Bool) (o : Option ℕ) → b ≡ option_eq eqb o (Some 0) → b ≡ false → ¬ (o ≡ Some 0)
is_some_length b o is none e = true≢false (sym (ap (λ x. option_eq eqb x (Some 0)) e) ∙ sym is ∙ none)

-- what the properties of a pattern tell of its least length; nothing if it is too deep
least_is : (h : Re) (p : Properties) (o : Option ℕ) → (depth h ≤ 1024 → IsPropertiesOf h p) → (1024 < depth h → TellNothing p) →
    ((g : Re) → IsPropertiesOf g p → o ≡ minimum_len g) → (TellNothing p → o ≡ Some 0) → ¬ (o ≡ Some 0) → o ≡ minimum_len h
least_is h p o shallow deep exact unknown some =
    ⊎_elim (λ far. absurd (some (unknown (deep far)))) (λ near. exact h (shallow near)) (cases_lt 1024 (depth h))

pub is_filled : (h : Re) (p : Properties) (o : Option ℕ) → (depth h ≤ 1024 → IsPropertiesOf h p) → (1024 < depth h → TellNothing p) →
    ((g : Re) → IsPropertiesOf g p → o ≡ minimum_len g) → (TellNothing p → o ≡ Some 0) → ¬ (o ≡ Some 0) → may_be_empty (h ∷ []) ≡ false
is_filled h p o shallow deep exact unknown some =
    ap (λ b. b || false) (ap is_zero (sym (least_is h p o shallow deep exact unknown some)) ∙ not_zero o some)
