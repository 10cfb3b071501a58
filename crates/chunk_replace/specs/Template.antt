-- Templates: what they are made of, and how they are written.
use Rattle.std.specs.Prelude.{◌≡◌, ℕ, ◌<◌, ◌^◌, ◌⊎◌, List, [], ◌∷◌, ◌++◌, map, length, IsTrue}
use Rattle.std.specs.List.{flat_map}
use Rattle.std.specs.Str.Parse.{IsNumeral, digits_value}
use Rattle.rc_tokens.specs.Marks.{is_name}
use Rattle.chunk_replace.specs.declared.template.Part.{Part}
use Rattle.chunk_replace.specs.declared.template.Part.TheVariants.{Literal, Group, Name}
use Rattle.chunk_replace.specs.declared.template.Template.{Template}
use Rattle.chunk_replace.specs.declared.template.TemplateError.{TemplateError}
use Rattle.chunk_replace.specs.declared.template.TemplateError.TheVariants.{Syntax, Memory}

-- One item of a template.
pub data Item : Type 0 where
  -- a byte that stands for itself
  byte : ℕ → Item
  -- the group of this number
  group : ℕ → Item
  -- the group of this name
  named : List ℕ → Item

-- The word is digits, and the number that they write fits in 64 bits.
pub record IsNumber (word : List ℕ) : Type 0 where
  pub digits : IsNumeral 10 word
  pub small : digits_value 10 word < 2 ^ 64

-- The word stands for the group: a number, or its name.
abbrev pub IsReference : Item → List ℕ → Type 0
IsReference (byte b) word = ⊥
IsReference (group n) word = IsNumber word × (n ≡ digits_value 10 word)
IsReference (named name) word = IsTrue (is_name word) × (word ≡ name)

-- After a `$` it marks the item: `$` for itself, and a word in braces for a group.
abbrev pub IsMarked : Item → List ℕ → Type 0
IsMarked (byte b) mark = (b ≡ 36) × (mark ≡ 36 ∷ [])
IsMarked i mark = (word : List ℕ) × IsReference i word × (mark ≡ 123 ∷ (word ++ 125 ∷ []))

-- The item is written so: a byte other than `$` as itself, all else by a `$` and a mark.
abbrev pub IsWritten : Item → List ℕ → Type 0
IsWritten i written = ((b : ℕ) × (i ≡ byte b) × ¬ (b ≡ 36) × (written ≡ b ∷ [])) ⊎ ((mark : List ℕ) × IsMarked i mark × (written ≡ 36 ∷ mark))

-- The text is these items, one after another.
abbrev pub IsReadAs : List Item → List ℕ → Type 0
IsReadAs [] text = text ≡ []
IsReadAs (i ∷ items) text = (written rest : List ℕ) × IsWritten i written × IsReadAs items rest × (text ≡ written ++ rest)

-- The text is items up to a place, where none begins and where it doesn't end.
pub record IsRefusedAt (text : List ℕ) (at : ℕ) : Type 0 where
  pub items : List Item
  pub before : List ℕ
  pub after : List ℕ
  pub read : IsReadAs items before
  pub split : text ≡ before ++ after
  pub place : at ≡ length before
  pub goes_on : 0 < length after
  pub unread : (i : Item) (written rest : List ℕ) → IsWritten i written → ¬ (after ≡ written ++ rest)

abbrev pub IsTemplateError : List ℕ → TemplateError → Type 0
IsTemplateError text (Syntax at) = IsRefusedAt text at
IsTemplateError text Memory = Unit {0}

-- the items that a part stands for
abbrev pub items_of : Part → List Item
items_of (Literal text) = map byte text.now
items_of (Group n) = group n ∷ []
items_of (Name name) = named name.now ∷ []

-- the items of a template, in order
abbrev pub template_items : Template → List Item
template_items t = flat_map items_of t.parts.items
