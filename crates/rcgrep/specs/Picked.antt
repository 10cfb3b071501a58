-- Which lines a regex selects.
use Rattle.std.specs.Prelude.{◌≡◌, ℕ, Bool, false, not, List, Option, None, Some, length, map, if◌then◌else◌}
use Rattle.std.specs.Option.{is_some}
use Rattle.rc_text.specs.Found.{Found}
use Rattle.rc_text.specs.Text.{Searched}
use Rattle.rc_text.specs.declared.types.Span.{Span}
use Rattle.rc_program.specs.Kinds.{answer_by, matches_by_kind}
use Rattle.rc_program.specs.Sought.{Sought, search_for}
use Rattle.rc_settings.specs.Settings.{Settings, unset}
use Rattle.api_meta.specs.Views.{regex_kind, sought}
use Rattle.api_meta.specs.declared.regex.Regex.{Regex}
use Rattle.regex_cursor.specs.Output.{whole}

-- the settings of a regex for lines: matches may end inside a character, and patterns may take 128 MiB
abbrev pub line_settings : Settings
line_settings = record unset { utf8_empty = Some false; nfa_size_limit = Some (Some 134217728) }

-- the regex has a match in the line, as if there was nothing around it
abbrev pub has_match : Regex → List ℕ → Bool
has_match r line = is_some (answer_by (regex_kind r) (search_for (sought r) (whole line)))

-- a search of the input is one of the line
abbrev pub IsLine : List ℕ → Searched → Type 0
IsLine line s = (q : Sought) → search_for q s ≡ search_for q (whole line)

-- the line, searched from the place on
abbrev pub from_place : List ℕ → ℕ → Searched
from_place line from = record (whole line) { span = record { start = from; end = length line } }

-- a search of the input is one of the line from the place on
abbrev pub IsLineFrom : List ℕ → ℕ → Searched → Type 0
IsLineFrom line from s = (q : Sought) → search_for q s ≡ search_for q (from_place line from)

-- the match that a search of the line from the place on finds
abbrev pub found_from : Regex → List ℕ → ℕ → Option Found
found_from r line from = answer_by (regex_kind r) (search_for (sought r) (from_place line from))

abbrev pub span_of : Found → Span
span_of m = record { start = m.start; end = m.end }

-- the matches in what is searched
abbrev pub spans_of : Regex → Searched → List Span
spans_of r s = map span_of (matches_by_kind (regex_kind r) (search_for (sought r) s) s.span.start None)

-- the matches in a text, which may go on across lines
abbrev pub text_matches : Regex → List ℕ → List Span
text_matches r text = map span_of (matches_by_kind (regex_kind r) (search_for (sought r) (whole text)) 0 None)

-- the lines with a match, or the others
abbrev pub is_picked : Bool → Bool → Bool
is_picked inverted found = if inverted then not found else found
