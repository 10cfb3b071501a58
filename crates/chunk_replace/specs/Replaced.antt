-- The text in which each match is replaced by a template.
use Rattle.std.specs.Prelude.{ℕ, List, [], ◌∷◌, ◌++◌, drop, None, Option, option_and_then, slice_range}
use Rattle.std.specs.List.{flat_map}
use Rattle.rc_text.specs.Found.{Found}
use Rattle.rc_text.specs.declared.types.MatchKind.{MatchKind}
use Rattle.rc_text.specs.declared.types.Span.{Span}
use Rattle.rc_captures.specs.Captures.{span_of}
use Rattle.rc_captures.specs.Names.{Names, slots, to_index}
use Rattle.rc_program.specs.Answer.{Chosen, Search, last_of, pattern_of, slot_of}
use Rattle.rc_program.specs.Kinds.{matches_by_kind}
use Rattle.rc_program.specs.Sought.{Sought, search_for}
use Rattle.rc_pikevm_search.specs.Walks.{walks_left}
use Rattle.api_meta.specs.Views.{regex_kind, regex_names, sought}
use Rattle.api_meta.specs.declared.regex.Regex.{Regex}
use Rattle.regex_cursor.specs.Output.{whole}
use Rattle.chunk_replace.specs.Spans.{bytes_in}
use Rattle.chunk_replace.specs.Template.{Item, byte, group, named}

-- the span of a group of a match; `None` where its pattern has no such group, and where the group took no part
abbrev pub group_in : Names → Search → Chosen → ℕ → Option Span
group_in names s c g = option_and_then (λ k. span_of (slot_of s c k.0) (slot_of s c k.1)) (slots names (pattern_of s c) g)

-- the span of the group of that name
abbrev pub named_in : Names → Search → Chosen → List ℕ → Option Span
named_in names s c name = option_and_then (group_in names s c) (to_index names (pattern_of s c) name)

-- the bytes for an item of a template: the byte, or those of the group
abbrev pub item_bytes : List ℕ → Names → Search → Chosen → Item → List ℕ
item_bytes content names s c (byte b) = b ∷ []
item_bytes content names s c (group n) = bytes_in content (group_in names s c n)
item_bytes content names s c (named name) = bytes_in content (named_in names s c name)

-- what a match is replaced by
abbrev pub replacement : List ℕ → Names → Search → List Item → Chosen → List ℕ
replacement content names s items c = flat_map (item_bytes content names s c) items

-- The content from a place on, with these matches replaced: for each match the bytes up to its start, and what it is replaced by; and
-- at last the bytes after them.
abbrev pub replaced_from : List ℕ → (Chosen → List ℕ) → ℕ → List Chosen → List ℕ
replaced_from content by from [] = drop from content
replaced_from content by from (c ∷ cs) = slice_range content from c.start ++ (by c ++ replaced_from content by (last_of c.walk).1 cs)

-- the content with each match of the kind of what is sought replaced, where that isn't the greatest one; these are the names of the groups
abbrev pub replaced : MatchKind → Names → Sought → List Item → List ℕ → List ℕ
replaced kind names q items content =
    replaced_from content (replacement content names (search_for q (whole content)) items) 0 (walks_left kind (search_for q (whole content)) 0 None)

-- the content with each match of a regex replaced
abbrev pub replaced_by : Regex → List Item → List ℕ → List ℕ
replaced_by r items content = replaced (regex_kind r) (regex_names r) (sought r) items content

-- the matches that a regex finds in a content
abbrev pub matches_of : Regex → List ℕ → List Found
matches_of r content = matches_by_kind (regex_kind r) (search_for (sought r) (whole content)) 0 None
