-- What a search of a file finds.
use Rattle.std.specs.Prelude.{◌≡◌, ℕ, true, List, Option, Some, length}
use Rattle.rc_text.specs.Found.{Found}
use Rattle.rc_text.specs.Text.{Searched}
use Rattle.rc_program.specs.Kinds.{answer_by}
use Rattle.rc_program.specs.Sought.{Sought, search_for}
use Rattle.api_meta.specs.Views.{regex_kind, sought}
use Rattle.api_meta.specs.declared.regex.Regex.{Regex}
use Rattle.regex_cursor.specs.Output.{whole}
use Rattle.paged_file.specs.Stored.{Stored, fault_of}
use Rattle.paged_search.specs.declared.search.FindError.{FindError}
use Rattle.paged_search.specs.declared.search.FindError.TheVariants.{Memory, Read}

-- the content, searched from the place on
abbrev pub from_place : List ℕ → ℕ → Searched
from_place content at = record (whole content) { span = record { start = at; end = length content } }

-- a search of the input is one of the content from the place on
abbrev pub IsSearchedFrom : List ℕ → ℕ → Searched → Type 0
IsSearchedFrom content at s = (q : Sought) → search_for q s ≡ search_for q (from_place content at)

-- the match that a search of the content from the place on finds
abbrev pub found_from : Regex → List ℕ → ℕ → Option Found
found_from r content at = answer_by (regex_kind r) (search_for (sought r) (from_place content at))

-- a fault of a read is the file's, and each page could be read where memory is refused
abbrev pub IsFault : Stored → FindError → Type 0
IsFault s (Read f) = fault_of s ≡ Some f
IsFault s Memory = s.is_whole ≡ true
