-- What the text between the braces of `\p{..}` names.
use Rattle.std.specs.Prelude.{◌≡◌, ◌⊎◌, Bool, true, false, nat_eq, [], ◌∷◌, drop, length, Option, Some, None, is_some, Result, Ok, Err, MatchResult, codes, if◌then◌else◌}
use Rattle.std.specs.List.{starts_with}
use Rattle.unicode.specs.Loose.{normalize}
use Rattle.unicode.specs.Lookup.{by_name, by_value, property_named}
use Rattle.ucd_sets.specs.declared.set.Set.{Set}
use Rattle.ucd_sets.specs.declared.set.Set.TheVariants as set
use Rattle.ucd_category.specs.declared.GeneralCategory.TheVariants as category
use Rattle.rc_tokens.specs.Text.{Characters, ◌>>=◌}
use Rattle.rc_class_names.specs.declared.properties.Property.{Property}
use Rattle.rc_class_names.specs.declared.properties.NameError.{NameError}
use Rattle.rc_class_names.specs.declared.properties.NameError.TheVariants.{UnknownProperty, UnknownValue, Surrogates, Memory}

-- the text before the first place where the sign stands, and that behind the sign
abbrev pub parted_at : Characters → Characters → Option (Characters × Characters)
parted_at sign [] = None
parted_at sign (c ∷ t) =
    if starts_with nat_eq (c ∷ t) sign then Some ([], drop (length sign) (c ∷ t))
    else (parted_at sign t >>= λ p. Some (c ∷ p.0, p.1))

-- a name, or a property and its value, perhaps negated
pub data Query : Type 0 where
  alone : Characters → Query
  valued : Bool → Characters → Characters → Query

abbrev pub valued_or : Bool → Option (Characters × Characters) → Query → Query
valued_or negated None otherwise = otherwise
valued_or negated (Some p) otherwise = valued negated p.0 p.1

-- `!=` comes before `:`, and that before `=`
abbrev pub query : Characters → Query
query t =
    valued_or true (parted_at (codes "!=") t)
    (valued_or false (parted_at (codes ":") t) (valued_or false (parted_at (codes "=") t) (alone t)))

-- Surrogates are no characters, so their category is refused.
abbrev pub checked : Bool → Set → Result Property NameError
checked negated (set.Category category.Surrogate) = Err Surrogates
checked negated s = Ok (record { set = s; negated = negated })

abbrev pub found : Bool → NameError → Option Set → Result Property NameError
found negated fault None = Err fault
found negated fault (Some s) = checked negated s

-- what a query finds by names in their loose form
abbrev pub named : Query → Result Property NameError
named (alone t) = found false UnknownProperty (by_name (normalize t))
named (valued negated property value) =
    found negated (if is_some (property_named (normalize property)) then UnknownValue else UnknownProperty)
    (by_value (normalize property) (normalize value))

-- the result is what the query finds, or memory ran out
abbrev pub IsNamed : Result Property NameError → Query → Type 0
IsNamed result q = MatchResult result (λ p. named q ≡ Ok p) (λ e. (e ≡ Memory) ⊎ (named q ≡ Err e))

abbrev pub IsRead : Result Property NameError → Characters → Type 0
IsRead result text = IsNamed result (query text)
