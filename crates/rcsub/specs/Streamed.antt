-- Only proofs and the contracts of private functions use this file.
-- A text that comes in by pages, and is written as it comes, with each match replaced.
use Rattle.std.specs.Prelude.{◌≡◌, ◌↔◌, ℕ, ◌+◌, ◌-◌, ◌<◌, ◌≤◌, Bool, List, [], ◌∷◌, ◌++◌, length, map, Option, Some, IsTrue}
use Rattle.std.specs.Io.KnownBytes.{Appends}
use Rattle.rc_text.specs.Found.{Found}
use Rattle.rc_captures.specs.declared.captures.Captures.{Captures}
use Rattle.rc_program.specs.Answer.{Chosen, Search, from_start, found, pattern_of, slot_of}
use Rattle.rc_captures.specs.Captures.{HasMatch}
use Rattle.rc_captures.specs.Names.{Names}
use Rattle.rc_pikevm_search.specs.Tells.{KeepsAll}
use Rattle.rc_reach.specs.Live.{over_content}
use Rattle.api_meta.specs.Caches.{IsCacheFor}
use Rattle.api_meta.specs.Views.{regex_names, regex_patterns, regex_settings}
use Rattle.api_meta.specs.declared.regex.Regex.{Regex}
use Rattle.chunk_replace.specs.Replaced.{matches_of, replaced_by, replaced_from, replacement}
use Rattle.chunk_replace.specs.Template.{Item}
use Rattle.stream_search.specs.Searches.{seeks}
use Rattle.stream_search.specs.Searching.{WasFed}
use Rattle.stream_search.specs.Streams.{MayBecome}
use Rattle.rcsub.specs.declared.streamed.Streamed.{Streamed}

-- the search of a content by a regex
abbrev pub search_of : Regex → List ℕ → Search
search_of r content = over_content (seeks r) content

-- what a walk in a content is replaced by
abbrev pub put_for : Regex → List Item → List ℕ → Chosen → List ℕ
put_for r items content = replacement content (regex_names r) (search_of r content) items

-- Each walk is the one that is chosen from where it begins.
abbrev pub AreChosen : Search → List Chosen → Type 0
AreChosen s [] = Unit {0}
AreChosen s (c ∷ cs) = (from_start s c.start ≡ Some c) × AreChosen s cs

-- The first of the walks begins at k or later.
abbrev pub BeginAt : ℕ → List Chosen → Type 0
BeginAt k [] = Unit {0}
BeginAt k (c ∷ cs) = k ≤ c.start

-- The bytes are the content up to a place, with each of these matches replaced, whatever matches follow there.
pub record Replaces (r : Regex) (items : List Item) (content : List ℕ) (told : List Found) (to : ℕ) (put : List ℕ) : Type 0 where
  pub walks : List Chosen
  pub matched : map (found (search_of r content)) walks ≡ told
  pub picked : AreChosen (search_of r content) walks
  pub split : (rest : List Chosen) → BeginAt to rest →
      replaced_from content (put_for r items content) 0 (walks ++ rest) ≡ put ++ replaced_from content (put_for r items content) to rest

-- The cache and the captures are of the regex, and no byte was let go that wasn't written.
pub record IsReady (s : Streamed) : Type 0 where
  pub cache : IsCacheFor (regex_patterns s.stream.regex) (regex_settings s.stream.regex) s.cache
  pub captures : KeepsAll (regex_names s.stream.regex) s.captures
  pub margin : s.stream.gone ≤ s.stream.from - 4
  pub kept : s.stream.gone ≤ s.written
  pub inside : s.written ≤ s.stream.gone + length s.stream.kept
  pub ahead : s.written ≤ s.stream.from

-- Of these bytes these matches were told, and the known bytes of a writer grew from `old` to `new` by the bytes up to `written`, with each
-- match replaced.
pub record Stands (items : List Item) (fed : List ℕ) (told : List Found) (s : Streamed) (old new : Option (List ℕ)) : Type 0 where
  pub was : WasFed fed told s.stream
  pub any : IsTrue s.any ↔ (0 < length told)
  pub put : List ℕ
  pub appended : Appends old new put
  pub replaces : (content : List ℕ) → MayBecome s.stream.is_finished fed content → Replaces s.stream.regex items content told s.written put

-- The bytes were put, and then what replaces a match whose groups the captures hold.
abbrev pub PutsFor : List ℕ → List Item → (kept : List ℕ) → Captures → Option (List ℕ) → Option (List ℕ) → Type 0
PutsFor gap items kept caps old new = (names : Names) (s : Search) (walk : Chosen) → KeepsAll names caps →
    HasMatch caps (pattern_of s walk) (slot_of s walk) → Appends old new (gap ++ replacement kept names s items walk)

-- The bytes of a text were put with each match replaced, and `any` tells whether there is one.
pub record IsDone (r : Regex) (items : List Item) (text : List ℕ) (old new : Option (List ℕ)) (any : Bool) : Type 0 where
  pub put : Appends old new (replaced_by r items text)
  pub told : IsTrue any ↔ (0 < length (matches_of r text))
