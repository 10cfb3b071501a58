-- The text that is put out for the matches of a pattern.
use Rattle.std.specs.Prelude.{◌≡◌, ◌↔◌, ℕ, ◌<◌, Bool, true, false, List, [], ◌∷◌, ◌++◌, length, Option, IsTrue, codes, None}
use Rattle.std.specs.List.{flat_map}
use Rattle.std.specs.Fmt.{decimal}
use Rattle.std.specs.Io.KnownBytes.{Appends}
use Rattle.rc_text.specs.Found.{Found}
use Rattle.rc_text.specs.Text.{Searched}
use Rattle.rc_text.specs.declared.types.Anchored.TheVariants.{No}
use Rattle.rc_pattern.specs.Re.{Re}
use Rattle.rc_program.specs.Sought.{Sought, search_for}
use Rattle.rc_program.specs.Matches.{matches_left}
use Rattle.rc_parser.specs.Settings.{default_settings}
use Rattle.rc_build.specs.TextRefusals.{IsReadAs}

-- where the match begins, two dots, where it ends, and a line feed
abbrev pub line_of : Found → List ℕ
line_of m = (decimal m.start ++ codes "..") ++ (decimal m.end ++ codes "\n")

-- a line for each match, in order
abbrev pub lines_of : List Found → List ℕ
lines_of ms = flat_map line_of ms

-- the whole of a content, as an input in one chunk
abbrev pub whole : List ℕ → Searched
whole content = record {
  content = content;
  chunk = content;
  offset = 0;
  position = 0;
  span = record { start = 0; end = length content };
  slice = record { start = 0; end = 18446744073709551615 };
  anchored = No;
  earliest = false;
}

-- The input's span begins at 0, and a search of it is that of the whole content.
pub record IsWhole (content : List ℕ) (s : Searched) : Type 0 where
  pub start : s.span.start ≡ 0
  pub same : (q : Sought) → search_for q s ≡ search_for q (whole content)

-- what a regex of this pattern seeks by default
abbrev pub sought_by_default : Re → Sought
sought_by_default p = record {
  patterns = p ∷ [];
  grouped = true;
  terminator = 10;
  utf8_empty = true;
}

-- all matches of the pattern in the content
abbrev pub matches_in : Re → List ℕ → List Found
matches_in p content = matches_left (search_for (sought_by_default p) (whole content)) 0 None

-- The known bytes of a writer grew by the lines of the matches, and it was told whether there is one.
pub record IsPut (ms : List Found) (old new : Option (List ℕ)) (found : Bool) : Type 0 where
  pub lines : Appends old new (lines_of ms)
  pub told : IsTrue found ↔ (0 < length ms)

-- The text is read as a pattern, by the default settings, and its matches in the content were put.
pub record IsRun (text content : List ℕ) (old new : Option (List ℕ)) (found : Bool) : Type 0 where
  pub pattern : Re
  pub read : IsReadAs default_settings text pattern
  pub put : IsPut (matches_in pattern content) old new found
