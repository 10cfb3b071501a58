-- Live lists: the matches of a regex in a text, and edits of the text.
use Rattle.std.specs.Prelude.{◌≡◌, ℕ, ◌+◌, ◌≤◌, List, [], Bool, true, false, length, drop, take, None}
use Rattle.rc_text.specs.Found.{Found}
use Rattle.rc_text.specs.Text.{Searched}
use Rattle.rc_text.specs.declared.types.Anchored.TheVariants.{No}
use Rattle.rc_program.specs.Answer.{Search}
use Rattle.rc_program.specs.Kinds.{matches_by_kind}
use Rattle.rc_program.specs.Matches.{from_on}
use Rattle.rc_program.specs.Sought.{Sought, search_for}
use Rattle.api_meta.specs.Caches.{IsCacheFor}
use Rattle.api_meta.specs.Views.{regex_kind, regex_patterns, regex_settings, sought}
use Rattle.api_meta.specs.declared.cache.Cache.{Cache}
use Rattle.api_meta.specs.declared.regex.Regex.{Regex}
use Rattle.live_matches.specs.declared.entry.Edit.{Edit}
use Rattle.live_matches.specs.Entry.{Entry}
use Rattle.live_matches.specs.Entries.{Gapped, all_of}
use Rattle.live_matches.specs.Lists.{AreEntries, founds}
use Rattle.live_matches.specs.Stretches.{AreStretches}

-- The cache was made for the regex.
abbrev pub IsCacheOf : Regex → Cache → Type 0
IsCacheOf r cache = IsCacheFor (regex_patterns r) (regex_settings r) cache

-- The whole of a content, as an input in one chunk.
abbrev pub whole : List ℕ → Searched
whole content = record {
  content = content;
  chunk = content;
  offset = 0;
  position = 0;
  span = record { start = 0; end = length content };
  slice = record { start = 0; end = 18446744073709551615 };
  anchored = No;
  earliest = false;
}

-- A search of the input is one of its whole content, from the start of its span on.
pub record IsOver (s : Searched) : Type 0 where
  pub same : (q : Sought) → search_for q s ≡ from_on (search_for q (whole s.content)) s.span.start
  pub room : length s.content ≤ s.span.end

-- The span begins at 0 too.
pub record IsWhole (s : Searched) : Type 0 where
  pub start : s.span.start ≡ 0
  pub over : IsOver s

-- From s to t, only the shown chunk, the position and the start of the span change.
pub record Goes (s t : Searched) : Type 0 where
  pub content : t.content ≡ s.content
  pub end : t.span.end ≡ s.span.end
  pub slice : t.slice ≡ s.slice
  pub anchored : t.anchored ≡ s.anchored
  pub earliest : t.earliest ≡ s.earliest

-- The search of a regex. Its text is that of no content yet.
abbrev pub seeks : Regex → Search
seeks r = search_for (sought r) (whole [])

-- All matches of a regex in a content.
abbrev pub matches_of : Regex → List ℕ → List Found
matches_of r content =
    matches_by_kind (regex_kind r) (search_for (sought r) (whole content)) 0 None

-- A list of matches as contracts see it, of a text of `len` bytes, and stretches of the text in
-- which no match begins.
pub record Listed : Type 0 where
  pub entries : List Entry
  pub quiets : Gapped
  pub len : ℕ
  pub is_stale : Bool

-- The matches of the list.
abbrev pub listed : Listed → List Found
listed l = founds l.entries

-- The list is that of the content. The bytes before the reach of each entry settle it, and those
-- before the reach of each quiet stretch that no match begins in it.
pub record IsLive (r : Regex) (content : List ℕ) (l : Listed) : Type 0 where
  pub matches : listed l ≡ matches_of r content
  pub settled : AreEntries (regex_kind r) (seeks r) content None l.entries
  pub quiet : AreStretches (regex_kind r) (seeks r) content 0 (all_of l.quiets)
  pub quiet_len : l.quiets.len ≡ length content
  pub len : l.len ≡ length content
  pub fresh : l.is_stale ≡ false

-- The new content is the old one, with so many bytes in place of those of the span.
pub record IsEdited (edit : Edit) (old new : List ℕ) : Type 0 where
  pub order : edit.replaced.start ≤ edit.replaced.end
  pub inside : edit.replaced.end ≤ length old
  pub room : edit.replaced.start + edit.inserted ≤ length new
  pub front : take edit.replaced.start new ≡ take edit.replaced.start old
  pub back : drop (edit.replaced.start + edit.inserted) new ≡ drop edit.replaced.end old

-- A stale list has neither matches nor text.
abbrev pub IsStale : Listed → Type 0
IsStale l = (l.is_stale ≡ true) × (l.entries ≡ []) × (l.len ≡ 0)

-- The entries are those of some content, of which this one is an edit.
pub record WereEntries (r : Regex) (edit : Edit) (content : List ℕ) (g : Gapped) : Type 0 where
  pub old : List ℕ
  pub are : AreEntries (regex_kind r) (seeks r) old None (all_of g)
  pub len : g.len ≡ length old
  pub edited : IsEdited edit old content

-- The stretches are those of some content, of which this one is an edit.
pub record WereStretches (r : Regex) (edit : Edit) (content : List ℕ) (g : Gapped) : Type 0 where
  pub old : List ℕ
  pub are : AreStretches (regex_kind r) (seeks r) old 0 (all_of g)
  pub len : g.len ≡ length old
  pub edited : IsEdited edit old content

-- The list is that of some content, of which this one is an edit.
pub record WasLive (r : Regex) (edit : Edit) (content : List ℕ) (l : Listed) : Type 0 where
  pub old : List ℕ
  pub live : IsLive r old l
  pub edited : IsEdited edit old content
