-- Searches of a regex in a content, and the answers to those of kept bytes.
use Rattle.std.specs.Prelude.{◌≡◌, ℕ, ◌+◌, ◌≤◌, Bool, true, false, List, [], length, max}
use Rattle.rc_text.specs.Found.{Found}
use Rattle.rc_text.specs.Text.{Searched}
use Rattle.rc_text.specs.declared.types.Anchored.TheVariants.{No}
use Rattle.rc_program.specs.Answer.{Search}
use Rattle.rc_program.specs.Matches.{from_on}
use Rattle.rc_program.specs.Sought.{Sought, search_for}
use Rattle.rc_reach.specs.Live.{list_by, over_content}
use Rattle.api_meta.specs.Partials.{IsSettledBefore}
use Rattle.api_meta.specs.Views.{regex_kind, sought}
use Rattle.api_meta.specs.declared.partial.Partial.{Partial}
use Rattle.api_meta.specs.declared.partial.Partial.TheVariants.{Final, From}
use Rattle.api_meta.specs.declared.regex.Regex.{Regex}
use Rattle.regex_cursor.specs.Output.{whole}

-- The search of a regex. Its text is that of no content yet.
abbrev pub seeks : Regex → Search
seeks r = search_for (sought r) (whole [])

-- The input has its whole content to search, unanchored, from the start of its span on.
pub record IsOver (i : Searched) : Type 0 where
  pub end : length i.content ≤ i.span.end
  pub slice_start : i.slice.start ≡ 0
  pub slice_end : i.slice.end ≡ 18446744073709551615
  pub anchored : i.anchored ≡ No
  pub late : i.earliest ≡ false

-- All matches of a regex in a content.
abbrev pub matches_of : Regex → List ℕ → List Found
matches_of r content = list_by (regex_kind r) (seeks r) content

-- A search of the input is one of the whole content from `at` on.
abbrev pub IsFrom : List ℕ → ℕ → Searched → Type 0
IsFrom content at i = (q : Sought) →
    search_for q i ≡ from_on (over_content (search_for q (whole [])) content) at

-- The match lies in so many bytes, from `at` on. The place is `at` or later, and at most one after
-- their end.
abbrev pub LiesIn : ℕ → ℕ → Partial → Type 0
LiesIn at len (Final m) = (at ≤ m.start) × (m.start ≤ m.end) × (m.end ≤ len)
LiesIn at len (From k) = (at ≤ k) × (k ≤ len + 1)

-- The same, from wherever the search begins.
abbrev pub IsWithin : ℕ → ℕ → Partial → Type 0
IsWithin at len (Final m) = (at ≤ m.start) × (m.start ≤ m.end) × (m.end ≤ len)
IsWithin at len (From k) = (at ≤ k) × (k ≤ max at len)

-- Before this place the content tells all.
abbrev pub TellsBefore : Regex → List ℕ → ℕ → Type 0
TellsBefore r content k = IsSettledBefore (regex_kind r) (over_content (seeks r) content) k

-- If no more bytes follow, the search goes on after their end, where nothing is found.
abbrev pub IsPast : Bool → ℕ → Partial → Type 0
IsPast is_finished len (Final m) = Unit {0}
IsPast is_finished len (From k) = is_finished ≡ true → k ≡ len + 1
