-- Stream searchers: what one holds, and what it tells of its stream.
use Rattle.std.specs.Prelude.{◌≡◌, ℕ, ◌+◌, ◌-◌, ◌<◌, ◌≤◌, Bool, true, false, List, [], ◌++◌, drop, length, Option, None, Some}
use Rattle.rc_text.specs.Found.{Found}
use Rattle.rc_reach.specs.Live.{EndedBy, found_by}
use Rattle.api_meta.specs.Views.{regex_kind}
use Rattle.api_meta.specs.declared.regex.Regex.{Regex}
use Rattle.stream_search.specs.Searches.{seeks}
use Rattle.stream_search.specs.Streams.{IsStream, MayBecome}
use Rattle.stream_search.specs.declared.error.FeedError.{FeedError}
use Rattle.stream_search.specs.declared.error.FeedError.TheVariants.{Finished, Limit, Memory, TooLong}

-- A searcher as contracts see it.
pub record Streaming : Type 0 where
  pub regex : Regex
  -- The bytes that it keeps. So many before them were let go.
  pub kept : List ℕ
  pub gone : ℕ
  -- Where the search goes on, and where the last match ended, in the whole stream.
  pub from : ℕ
  pub last : Option ℕ
  -- The greatest number of bytes that it may keep.
  pub limit : ℕ
  -- No more follows.
  pub is_finished : Bool

-- A searcher before anything is fed.
abbrev pub fresh : Regex → Streaming
fresh r = record {
  regex = r;
  kept = [];
  gone = 0;
  from = 0;
  last = None;
  limit = 18446744073709551615;
  is_finished = false;
}

-- The searcher was fed these bytes, and it gave these matches.
abbrev pub WasFed : List ℕ → List Found → Streaming → Type 0
WasFed fed told s =
    IsStream (regex_kind s.regex) (seeks s.regex) fed told s.is_finished s.kept s.gone s.from s.last

-- Its places lie in the stream. The bytes from four before the place where the search goes on are
-- kept.
pub record IsPlaced (gone len from : ℕ) (last : Option ℕ) : Type 0 where
  pub room : gone + len < 18446744073709551615
  pub margin : gone ≤ from - 4
  pub inside : from ≤ gone + len + 1
  pub ended : EndedBy last from

-- It keeps the rest of the bytes that it was fed.
pub record HoldsRest (fed : List ℕ) (s : Streaming) : Type 0 where
  pub kept_is : s.kept ≡ drop s.gone fed
  pub inside : s.gone ≤ length fed

-- Each content that the stream may become has this match from where the search goes on.
abbrev pub Finds : Streaming → List ℕ → Option Found → Type 0
Finds s fed o = (content : List ℕ) → MayBecome s.is_finished fed content →
    found_by (regex_kind s.regex) (seeks s.regex) content s.from ≡ o

-- The searcher once it let go the bytes that no search needs: it keeps those from four before the
-- place where the search goes on.
abbrev pub let_go : Streaming → Streaming
let_go s = record s { kept = drop (s.from - 4 - s.gone) s.kept; gone = s.from - 4 }

-- How many bytes those are.
abbrev pub needed : Streaming → ℕ
needed s = s.gone + length s.kept - (s.from - 4)

-- The match ends after this place.
abbrev pub IsAfter : Option ℕ → Found → Type 0
IsAfter None m = Unit {0}
IsAfter (Some last) m = last < m.end

-- How many of so many bytes lie after the last match. Before the first match it is one more than
-- all of them.
abbrev pub left_after : Option ℕ → ℕ → ℕ
left_after None len = len + 1
left_after (Some last) len = len - last

-- How many bytes of the stream lie after the last match.
abbrev pub left : Streaming → ℕ
left s = left_after s.last (s.gone + length s.kept)

-- It took the chunk.
pub record Takes (chunk : List ℕ) (s t : Streaming) : Type 0 where
  pub going : s.is_finished ≡ false
  pub taken : t ≡ record (let_go s) { kept = (let_go s).kept ++ chunk }
  pub few : length t.kept ≤ s.limit

-- The stream would still have fewer bytes than the greatest `usize`.
abbrev pub Fits : Streaming → List ℕ → Type 0
Fits s chunk = s.gone + length s.kept + length chunk < 18446744073709551615

-- Why it may refuse a chunk: the first of these that applies, and out of memory if none does.
abbrev pub IsRefusal : Streaming → List ℕ → FeedError → Type 0
IsRefusal s chunk Finished = s.is_finished ≡ true
IsRefusal s chunk TooLong = (s.is_finished ≡ false) × ¬ Fits s chunk
IsRefusal s chunk Limit =
    (s.is_finished ≡ false) × Fits s chunk × (s.limit < needed s + length chunk)
IsRefusal s chunk Memory =
    (s.is_finished ≡ false) × Fits s chunk × (needed s + length chunk ≤ s.limit)

-- The stream stands as it was. Bytes that no search needs may have been let go.
pub record Stands (s t : Streaming) : Type 0 where
  pub kept : t ≡ record s { kept = t.kept; gone = t.gone }
  pub same : (fed : List ℕ) (told : List Found) → WasFed fed told s → WasFed fed told t
