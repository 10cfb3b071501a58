-- Texts in which each match of a pattern is replaced by a template, as a whole or line by line.
use Rattle.std.specs.Prelude.{◌≡◌, ◌≢◌, ◌↔◌, ℕ, ◌+◌, ◌<◌, Bool, false, true, List, [], ◌∷◌, ◌++◌, Option, IsTrue, IsUtf8, if◌then◌else◌, length}
use Rattle.std.specs.Io.BufRead.{drop_through, ends_with_byte, first_piece, take_through}
use Rattle.std.specs.Io.KnownBytes.{Appends}
use Rattle.api_meta.specs.declared.regex.Regex.{Regex}
use Rattle.chunk_replace.specs.Replaced.{matches_of, replaced_by}
use Rattle.chunk_replace.specs.Template.{template_items}
use Rattle.rcsub.specs.declared.replacer.Replacer.{Replacer}

-- the regex for a text that is UTF-8, or that isn't
abbrev pub regex_for : Replacer → (utf8 : Bool) → Regex
regex_for r utf8 = if utf8 then r.over_utf8 else r.over_bytes

-- The bytes are the text with each match replaced, and there are so many matches.
pub record IsReplaced (r : Replacer) (text put : List ℕ) (count : ℕ) : Type 0 where
  pub utf8 : Bool
  pub is_utf8 : IsTrue utf8 ↔ IsUtf8 text
  pub replaced : put ≡ replaced_by (regex_for r utf8) (template_items r.template) text
  pub counted : count ≡ length (matches_of (regex_for r utf8) text)

-- the newline of a line, if it has one
abbrev pub newline_of : List ℕ → List ℕ
newline_of line = if ends_with_byte 10 line then 10 ∷ [] else []

-- The bytes are the lines of the text, each a text of its own that is replaced, with their newlines.
pub data IsReplacedByLine (r : Replacer) : (text put : List ℕ) (count : ℕ) → Type 0 where
  none : IsReplacedByLine r [] [] 0
  line : (text put puts : List ℕ) (n m : ℕ) → text ≢ [] → IsReplaced r (first_piece 10 text) put n →
      IsReplacedByLine r (drop_through 10 text) puts m → IsReplacedByLine r text (put ++ (newline_of (take_through 10 text) ++ puts)) (n + m)

-- The known bytes of a writer grew by the replaced text, and there was a match if and only if `any` is true.
pub record Rewrites (r : Replacer) (text : List ℕ) (old new : Option (List ℕ)) (any : Bool) : Type 0 where
  pub put : List ℕ
  pub count : ℕ
  pub is : IsReplaced r text put count
  pub appended : Appends old new put
  pub told : IsTrue any ↔ (0 < count)

-- They grew by its lines, each replaced.
pub record RewritesLines (r : Replacer) (text : List ℕ) (old new : Option (List ℕ)) (any : Bool) : Type 0 where
  pub put : List ℕ
  pub count : ℕ
  pub is : IsReplacedByLine r text put count
  pub appended : Appends old new put
  pub told : IsTrue any ↔ (0 < count)

-- by line or as a whole
abbrev pub RewritesBy : (by_line : Bool) → Replacer → (text : List ℕ) (old new : Option (List ℕ)) → Bool → Type 0
RewritesBy true r text old new any = RewritesLines r text old new any
RewritesBy false r text old new any = Rewrites r text old new any
