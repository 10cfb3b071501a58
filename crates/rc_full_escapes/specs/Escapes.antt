-- Escapes of the full grammar.
use Rattle.std.specs.Prelude.{◌≡◌, ◌⊎◌, ℕ, ◌≤◌, Bool, true, false, not, ◌&&◌, ◌||◌, ◌==◌, nat_le, [], ◌∷◌, ◌++◌, length, Option, Some, None, Result, Ok, Err, if◌then◌else◌}
use Rattle.rc_tokens.specs.Text.{Characters, ◌>>=◌, ◌>>◌, is_letter, is_scalar, each, number}
use Rattle.rc_tokens.specs.Marks.{Escape, short, fixed, braced, written_escape, escape_says}
use Rattle.rc_tokens.specs.declared.tokens.Escape as plain
use Rattle.rc_tokens.specs.declared.tokens.Escape.TheVariants as says
use Rattle.rc_class_names.specs.Properties.{query, named}
use Rattle.rc_class_names.specs.declared.properties.Property as properties
use Rattle.rc_class_names.specs.declared.properties.NameError.{NameError}
use Rattle.rc_full_escapes.specs.declared.escapes.FullEscape.{FullEscape}
use Rattle.rc_full_escapes.specs.declared.escapes.FullEscape.TheVariants.{Stated, Property}

abbrev pub is_octal : ℕ → Bool
is_octal c = nat_le 48 c && nat_le c 55

abbrev pub begins_octal : Characters → Bool
begins_octal [] = false
begins_octal (c ∷ t) = is_octal c

-- the character with the number that octal digits write
abbrev pub octal_says : Characters → Option (plain.Escape)
octal_says digits = number 8 512 digits >>= λ c. is_scalar c >> Some (says.Character c)

-- a `{`, and then a letter or a hyphen
abbrev pub opens_name : Characters → Bool
opens_name [] = false
opens_name (c ∷ []) = false
opens_name (c ∷ d ∷ t) = (c == 123) && (is_letter d || (d == 45))

-- a name in braces belongs to the `\b` before it
abbrev pub takes_name : Escape → Characters → Bool
takes_name (short c) t = (c == 98) && opens_name t
takes_name (fixed c digits) t = false
takes_name (braced c name) t = false

-- `p`, or `P` for the characters without the property
abbrev pub property_letter : Bool → ℕ
property_letter negated = if negated then 80 else 112

abbrev pub property_of : Bool → Result (properties.Property) NameError → Option FullEscape
property_of negated (Err e) = None
property_of negated (Ok p) = Some (Property (record { set = p.set; negated = if negated then not p.negated else p.negated }))

abbrev pub property_says : Bool → Characters → Option FullEscape
property_says negated name = property_of negated (named (query name))

-- An escape begins the text: what it says, and what is left.
pub data IsEscape (octal : Bool) : Characters → FullEscape → Characters → Type 0 where
  -- as in the stated grammar, but for what belongs to a `\b`
  stated : (e : Escape) (s : plain.Escape) (u : Characters) → escape_says e ≡ Some s → takes_name e u ≡ false →
      IsEscape octal (written_escape e ++ u) (Stated s) u
  -- one to three octal digits, as many as there are
  digits : (ds : Characters) (s : plain.Escape) (u : Characters) → octal ≡ true → octal_says ds ≡ Some s → each is_octal ds ≡ true →
      length ds ≤ 3 → (length ds ≡ 3) ⊎ (begins_octal u ≡ false) → IsEscape octal (92 ∷ (ds ++ u)) (Stated s) u
  -- `\pL`
  letter : (negated : Bool) (c : ℕ) (e : FullEscape) (u : Characters) → (c == 123) ≡ false → property_says negated (c ∷ []) ≡ Some e →
      IsEscape octal (92 ∷ property_letter negated ∷ c ∷ u) e u
  -- `\p{Greek}`
  name : (negated : Bool) (name : Characters) (e : FullEscape) (u : Characters) → each (λ c. not (c == 125)) name ≡ true →
      property_says negated name ≡ Some e → IsEscape octal (92 ∷ property_letter negated ∷ 123 ∷ (name ++ 125 ∷ u)) e u
