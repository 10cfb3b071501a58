-- Which refusals of a build apply to a list of texts that are to be read as patterns. A text is its bytes in UTF-8.
use Rattle.std.specs.Prelude.{◌≡◌, ℕ, ◌≤◌, All, List, length, map, take, chars, Option, Some, slice_get}
use Rattle.std.specs.List.{AllZip}
use Rattle.std.specs.Borrow.{Bor}
use Rattle.rc_pattern.specs.Re.{Re}
use Rattle.rc_pattern.specs.declared.syntax.Error.{Error}
use Rattle.rc_pattern.specs.declared.syntax.Error.TheVariants.{Syntax as FaultAt}
use Rattle.rc_parser.specs.Settings.{Settings}
use Rattle.rc_syntax.specs.Reads.{Reads}
use Rattle.rc_build.specs.Refusals.{IsRefusal, limit_by}
use Rattle.rc_settings.specs.declared.error.BuildError.{BuildError}
use Rattle.rc_settings.specs.declared.error.BuildError.TheVariants.{Syntax, IllFormed, SizeLimit, PlaceLimit, Memory, DfaSizeLimit, CacheTooSmall}

-- the bytes of texts that are lent
abbrev pub texts_of : List (Bor (List ℕ)) → List (List ℕ)
texts_of texts = map (λ t. t.now) texts

-- the text is read as the pattern
abbrev pub IsReadAs : Settings → List ℕ → Re → Type 0
IsReadAs s text h = Reads s (chars text) h

-- the text is read as some pattern
abbrev pub IsRead : Settings → List ℕ → Type 0
IsRead s text = (h : Re) × IsReadAs s text h

-- the texts are read as these patterns, each text as the pattern at its place
abbrev pub AllRead : Settings → List (List ℕ) → List Re → Type 0
AllRead s texts hs = AllZip (IsReadAs s) texts hs

-- p is the least number of a text that isn't read, and the fault is told at a byte within that text
pub record IsFirstUnread (s : Settings) (texts : List (List ℕ)) (p : ℕ) (e : Error) : Type 0 where
  pub before : All (IsRead s) (take p texts)
  pub text : List ℕ
  pub here : slice_get texts p ≡ Some text
  pub unread : ¬ IsRead s text
  pub told : (at : ℕ) × (at ≤ length text) × (e ≡ FaultAt at)

-- the texts are read as patterns, to which the refusal applies by the grammar that reads them
abbrev pub IsReadRefusal : Option ℕ → Settings → List (List ℕ) → BuildError → Type 0
IsReadRefusal limit s texts e = (hs : List Re) × AllRead s texts hs × IsRefusal (limit_by limit s) hs e

-- The refusal is the first one that applies to the texts. Want of memory may come at any time.
abbrev pub IsTextRefusal : Option ℕ → Settings → List (List ℕ) → BuildError → Type 0
IsTextRefusal limit s texts (Syntax p e) = IsFirstUnread s texts p e
IsTextRefusal limit s texts (IllFormed p) = IsReadRefusal limit s texts (IllFormed p)
IsTextRefusal limit s texts (SizeLimit n) = IsReadRefusal limit s texts (SizeLimit n)
IsTextRefusal limit s texts PlaceLimit = IsReadRefusal limit s texts PlaceLimit
IsTextRefusal limit s texts Memory = Unit {0}
IsTextRefusal limit s texts (DfaSizeLimit n) = ⊥
IsTextRefusal limit s texts (CacheTooSmall m n) = ⊥

-- A reading of texts that is refused: no pattern is read from some text, or memory was refused.
abbrev pub IsReadingRefusal : Settings → List (List ℕ) → BuildError → Type 0
IsReadingRefusal s texts (Syntax p e) = IsFirstUnread s texts p e
IsReadingRefusal s texts (IllFormed p) = ⊥
IsReadingRefusal s texts (SizeLimit n) = ⊥
IsReadingRefusal s texts PlaceLimit = ⊥
IsReadingRefusal s texts Memory = Unit {0}
IsReadingRefusal s texts (DfaSizeLimit n) = ⊥
IsReadingRefusal s texts (CacheTooSmall m n) = ⊥
