-- The words that the program is called with, and what it does.
use Rattle.std.specs.Prelude.{◌≡◌, ◌↔◌, ℕ, ◌<◌, Bool, List, [], ◌∷◌, length, map, Option, None, Some, IfSome, IsTrue, IsUtf8, true}
use Rattle.std.specs.Borrow.{Bor}
use Rattle.std.specs.Io.KnownBytes.{Appends}
use Rattle.rc_text.specs.declared.types.MatchKind.TheVariants.{LeftmostFirst}
use Rattle.rc_pattern.specs.Re.{Re}
use Rattle.rc_parser.specs.Settings.{default_settings}
use Rattle.rc_program.specs.Matches.{matches_left}
use Rattle.rc_program.specs.Sought.{Sought, search_for}
use Rattle.rc_settings.specs.Settings.{Settings, unset}
use Rattle.rc_build.specs.Names.{names_shown}
use Rattle.rc_build.specs.TextRefusals.{IsReadAs as IsPattern}
use Rattle.regex_cursor.specs.Output.{sought_by_default, whole}
use Rattle.regex_cursor.specs.Words.{IsLength}
use Rattle.chunk_replace.specs.Replaced.{replaced}
use Rattle.chunk_replace.specs.Template.{Item, IsReadAs}

-- The words are a text, a template and the length of a chunk.
abbrev pub AreWords : List (Bor (List ℕ)) → List ℕ → List ℕ → Type 0
AreWords words text template = (chunk : List ℕ) × (map (λ w. w.now) words ≡ text ∷ template ∷ chunk ∷ []) × IsLength chunk

abbrev pub HasWords : List (Bor (List ℕ)) → Type 0
HasWords words = (text template : List ℕ) × AreWords words text template

-- The template is one.
abbrev pub HasTemplate : List (Bor (List ℕ)) → Type 0
HasTemplate words = (text template : List ℕ) × AreWords words text template × ((items : List Item) × IsReadAs items template)

-- The settings of the regex: the default ones, but that matches may end inside a character if the content isn't UTF-8.
abbrev pub settings_in : Bool → Settings
settings_in utf8 = record unset { utf8_empty = Some utf8 }

-- what a regex of this pattern seeks by them
abbrev pub sought_in : Bool → Re → Sought
sought_in utf8 p = record (sought_by_default p) { utf8_empty = utf8 }

-- The text is read as a pattern, by the default settings, and the content was put with its matches replaced.
pub record IsSubstituted (text : List ℕ) (items : List Item) (content : List ℕ) (old new : Option (List ℕ)) (any : Bool) : Type 0 where
  pub pattern : Re
  pub read : IsPattern default_settings text pattern
  pub utf8 : Bool
  pub is_utf8 : IsTrue utf8 ↔ IsUtf8 content
  pub put : Appends old new (replaced LeftmostFirst (names_shown true (pattern ∷ [])) (sought_in utf8 pattern) items content)
  pub told : IsTrue any ↔ (0 < length (matches_left (search_for (sought_in utf8 pattern) (whole content)) 0 None))

-- The words are a pattern, a template and a length, and the known bytes of the input were put with the matches replaced.
pub record IsDone (words : List (Bor (List ℕ))) (input old new : Option (List ℕ)) (any : Bool) : Type 0 where
  pub text : List ℕ
  pub template : List ℕ
  pub words_are : AreWords words text template
  pub items : List Item
  pub read : IsReadAs items template
  pub put : IfSome input (λ bytes. IsSubstituted text items bytes old new any)
