-- Only proofs use this file.
-- What holds of all that is read between brackets.
use Rattle.std.specs.Prelude.{◌≡◌, ℕ, Bool, true, List, [], ◌∷◌, Option, Some, None}
use Rattle.std.specs.List.{list_any}
use Rattle.rc_tokens.specs.Text.{Characters}
use Rattle.rc_class_sets.specs.Sets.{CodeSet}
use Rattle.rc_class_sets.specs.Folding.{IsClosed, complement_if}
use Rattle.rc_full_lists.specs.declared.parts.Settings.{Settings}
use Rattle.rc_full_lists.specs.declared.parts.Part.{Part}
use Rattle.rc_full_lists.specs.declared.parts.Part.TheVariants as part
use Rattle.rc_full_lists.specs.declared.items.Item.{Item}
use Rattle.rc_full_lists.specs.Items.{HasCodes, item_set}
use Rattle.rc_full_lists.specs.Parts.{Passes, IsPart}
use Rattle.rc_full_lists.specs.Openings.{IsOpening}
use Rattle.rc_full_lists.specs.Lists.{one, lead_set, IsList}

-- an item that is read is one of characters, or with u off of bytes
abbrev pub ItemsHaveCodes : Type 0
ItemsHaveCodes = (s : Settings) (t : Characters) (i : Item) (u : Characters) → IsPart s t (part.Has i) u → HasCodes s.unicode i

-- if the part is an item, that is one of characters, or with u off of bytes
abbrev pub PartHasCodes : Bool → Part → Type 0
PartHasCodes unicode (part.Has i) = HasCodes unicode i
PartHasCodes unicode part.Closes = Unit {0}
PartHasCodes unicode part.Opens = Unit {0}
PartHasCodes unicode (part.Operates o) = Unit {0}

abbrev pub LeadHasCodes : Bool → Option ℕ → Type 0
LeadHasCodes unicode None = Unit {0}
LeadHasCodes unicode (Some c) = HasCodes unicode (one c)

-- With u and `fold` set a list has of characters that fold together all or none, so to fold it again,
-- or at its operators, changes nothing.
abbrev pub ListsStayFolded : Type 0
ListsStayFolded = (s : Settings) (t : Characters) (p : CodeSet) (d : ℕ) (u : Characters) → s.unicode ≡ true → IsList s true t p d u → IsClosed p

module _ (s : Settings) (fold : Bool) where
  -- Items and lists one behind the other, up to the `]`, and no operator between them: their sets.
  pub data Union : Characters → List CodeSet → Characters → Type 0 where
    closes : (t a u : Characters) → Passes s.verbose t a → IsPart s a part.Closes u → Union t [] u
    item : (t a b u : Characters) (i : Item) (ps : List CodeSet) → Passes s.verbose t a → IsPart s a (part.Has i) b → Union b ps u →
        Union t (item_set s.unicode fold i ∷ ps) u
    nested : (t a b c u : Characters) (p : CodeSet) (d : ℕ) (ps : List CodeSet) → Passes s.verbose t a → IsPart s a part.Opens b → IsList s fold b p d c →
        Union c ps u → Union t (p ∷ ps) u

-- A list without operators has the codes that one of its items or lists has, or if it is negated the
-- others.
abbrev pub ListsHaveTheirItems : Type 0
ListsHaveTheirItems = (s : Settings) (fold : Bool) (t a u v : Characters) (negated : Bool) (lead : Option ℕ) (ps : List CodeSet) (p : CodeSet) (d c : ℕ) →
    IsOpening s.verbose t negated lead a → Union s fold a ps u → IsList s fold t p d v →
    p c ≡ complement_if negated (λ c. list_any (λ q. q c) (lead_set s.unicode fold lead ∷ ps)) c

-- no text is read as two lists
abbrev pub ListsInOneWay : Type 0
ListsInOneWay = (s : Settings) (fold : Bool) (t : Characters) (p q : CodeSet) (d e : ℕ) (u v : Characters) → IsList s fold t p d u → IsList s fold t q e v →
    (p ≡ q) × (d ≡ e) × (u ≡ v)
