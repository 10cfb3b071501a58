-- What a status tells of a stream that a handle keeps, and what it leaves.
use Rattle.std.specs.Prelude.{◌≡◌, ◌⊎◌, ℕ, ◌+◌, ◌<◌, ◌≤◌, true, List, [], ◌∷◌, ◌++◌, length, None, MatchOption}
use Rattle.rc_text.specs.Found.{Found}
use Rattle.stream_search.specs.Searches.{matches_of}
use Rattle.stream_search.specs.Searching.{IsRefusal, Stands, Streaming, Takes, WasFed, fresh, left}
use Rattle.stream_search.specs.declared.error.FeedError.TheVariants.{Finished, Limit, Memory, TooLong}
use Rattle.searcher.specs.Places.{found_at}
use Rattle.searcher.specs.Searching.{Searching}
use Rattle.searcher.specs.declared.answers.MatchAt.{MatchAt}
use Rattle.zorfelith_c.specs.Replacing.{IsTextPut}
use Rattle.zorfelith_c.specs.Statuses.{done, finished, found, limit, memory, no_stream, too_long}
use Rattle.zorfelith_c.specs.declared.stream.Kept.{Kept}

-- The searcher is as it was but for its stream, of which this is so if it keeps one.
abbrev pub OfStream : Searching → ℕ → Searching → (Streaming → Streaming → Type 0) → Type 0
OfStream s status t Leaves =
    (t ≡ record s { stream = t.stream }) × MatchOption s.stream ((status ≡ no_stream) × (t.stream ≡ None)) (λ old. MatchOption t.stream ⊥ (Leaves old))

-- each history of the one is one of the other
abbrev pub KeepsHistory : (s t : Streaming) → Type 0
KeepsHistory s t = (fed : List ℕ) (told : List Found) → WasFed fed told s → WasFed fed told t

-- a new stream, or memory was refused and all is as it was
abbrev pub TellsNew : Searching → ℕ → Searching → Type 0
TellsNew s status t =
    ((status ≡ done) × (t ≡ record s { stream = t.stream }) × MatchOption t.stream ⊥ (λ u. (u ≡ fresh s.regex) × WasFed [] [] u))
    ⊎ ((status ≡ memory) × (t ≡ s))

-- why a chunk was refused: the first of these that applies
abbrev pub IsRefusedAs : List ℕ → ℕ → Streaming → Type 0
IsRefusedAs chunk status s =
    ((status ≡ finished) × IsRefusal s chunk Finished) ⊎ ((status ≡ too_long) × IsRefusal s chunk TooLong)
    ⊎ ((status ≡ limit) × IsRefusal s chunk Limit) ⊎ ((status ≡ memory) × IsRefusal s chunk Memory)

-- The chunk was fed; or it was refused, and the stream stands as it was.
abbrev pub TellsFed : List ℕ → ℕ → (s t : Streaming) → Type 0
TellsFed chunk status s t =
    ((status ≡ done) × Takes chunk s t × ((fed : List ℕ) (told : List Found) → WasFed fed told s → WasFed (fed ++ chunk) told t))
    ⊎ (IsRefusedAs chunk status s × Stands s t)

-- one match more was told
pub record IsTold (m : Found) (s t : Streaming) : Type 0 where
  pub stays : t ≡ record s { from = t.from; last = t.last }
  pub onward : s.from ≤ m.start
  pub order : m.start ≤ m.end
  pub inside : m.end ≤ s.gone + length s.kept
  pub falls : left t < left s
  pub told : (fed : List ℕ) (told : List Found) → WasFed fed told s → WasFed fed (told ++ m ∷ []) t

-- None is told until more is fed. Once the stream is finished, what was told is the whole list.
pub record IsUntold (s t : Streaming) : Type 0 where
  pub stays : t ≡ record s { from = t.from; last = t.last }
  pub same : KeepsHistory s t
  pub all : (fed : List ℕ) (told : List Found) → WasFed fed told s → s.is_finished ≡ true → told ≡ matches_of s.regex fed

abbrev pub TellsNext : ℕ → MatchAt → (s t : Streaming) → Type 0
TellsNext status m s t = ((status ≡ found) × IsTold (found_at m) s t) ⊎ ((status ≡ done) × IsUntold s t)

-- no more follows
abbrev pub TellsFinished : ℕ → (s t : Streaming) → Type 0
TellsFinished status s t = (status ≡ done) × (t ≡ record s { is_finished = true }) × KeepsHistory s t

-- it may keep at most so many bytes
abbrev pub TellsLimited : ℕ → ℕ → (s t : Streaming) → Type 0
TellsLimited most status s t = (status ≡ done) × (t ≡ record s { limit = most })

-- the bytes that it keeps, and where they begin
abbrev pub TellsKept : ℕ → List ℕ → Kept → (s t : Streaming) → Type 0
TellsKept status place kept s t =
    (t ≡ s) × (kept ≡ record { start = s.gone; len = length s.kept }) × IsTextPut s.kept status place
