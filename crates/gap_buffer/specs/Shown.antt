-- What an editor shows of a text's matches.
use Rattle.std.specs.Prelude.{◌≡◌, ℕ, Bool, ◌&&◌, List, None, Option, filter, length, nat_lt}
use Rattle.std.specs.List.{last_or}
use Rattle.rc_text.specs.Found.{Found}
use Rattle.rc_text.specs.Text.{Searched}
use Rattle.rc_text.specs.declared.types.Span.{Span}
use Rattle.rc_program.specs.Kinds.{answer_by, matches_by_kind}
use Rattle.rc_program.specs.Sought.{Sought, search_for}
use Rattle.api_meta.specs.Views.{regex_kind, regex_patterns, regex_settings, sought}
use Rattle.api_meta.specs.Caches.{IsCacheFor}
use Rattle.api_meta.specs.declared.cache.Cache.{Cache}
use Rattle.api_meta.specs.Left.{find_left}
use Rattle.api_meta.specs.Seeking.{Finding}
use Rattle.api_meta.specs.declared.regex.Regex.{Regex}
use Rattle.regex_cursor.specs.Output.{whole}

-- the cache was made for the regex
abbrev pub IsCacheOf : Regex → Cache → Type 0
IsCacheOf r cache = IsCacheFor (regex_patterns r) (regex_settings r) cache

-- the content, searched from the place on
abbrev pub from_place : List ℕ → ℕ → Searched
from_place content at = record (whole content) { span = record { start = at; end = length content } }

-- a search of the input is one of the content from the place on
abbrev pub IsSearchedFrom : List ℕ → ℕ → Searched → Type 0
IsSearchedFrom content at s = (q : Sought) → search_for q s ≡ search_for q (from_place content at)

-- the match that a search of the content from the place on finds
abbrev pub found_from : Regex → List ℕ → ℕ → Option Found
found_from r content at = answer_by (regex_kind r) (search_for (sought r) (from_place content at))

-- all matches of a regex in a content
abbrev pub matches_of : Regex → List ℕ → List Found
matches_of r content = matches_by_kind (regex_kind r) (search_for (sought r) (whole content)) 0 None

-- all matches in the content are left
abbrev pub LeavesAll : Regex → List ℕ → Finding → Type 0
LeavesAll r content s = find_left s ≡ matches_of r content

-- the match begins before the place
abbrev pub begins_before : ℕ → Found → Bool
begins_before at m = nat_lt m.start at

-- the last of the matches that begin before the place
abbrev pub last_before : ℕ → List Found → Option Found
last_before at ms = last_or None (filter (begins_before at) ms)

-- the match begins before the window's end, and ends after its start
abbrev pub overlaps : Span → Found → Bool
overlaps window m = nat_lt m.start window.end && nat_lt window.start m.end
