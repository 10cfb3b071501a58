-- Groups of a stream: what captures of the kept bytes tell of the whole stream.
use Rattle.std.specs.Prelude.{◌≡◌, ℕ, ◌+◌, List, Option, Some, map}
use Rattle.std.specs.Option.{option_map}
use Rattle.rc_text.specs.Found.{Found}
use Rattle.rc_captures.specs.Captures.{captures_slots, match_of}
use Rattle.rc_captures.specs.Lends.{with_slots}
use Rattle.rc_captures.specs.declared.captures.Captures.{Captures}
use Rattle.rc_program.specs.Matches.{from_on}
use Rattle.rc_pikevm_search.specs.Tells.{TellsBy}
use Rattle.rc_pikevm_search.specs.Walks.{next_start}
use Rattle.rc_reach.specs.Edits.{match_further}
use Rattle.rc_reach.specs.Live.{over_content}
use Rattle.api_meta.specs.Views.{regex_kind}
use Rattle.stream_search.specs.Searches.{seeks}
use Rattle.stream_search.specs.Searching.{Streaming}
use Rattle.stream_search.specs.Streams.{MayBecome}

-- A position in a slot, so many bytes further on.
abbrev pub slot_further : ℕ → Option ℕ → Option ℕ
slot_further d slot = option_map (λ p. p + d) slot

-- The captures, so many bytes further on.
abbrev pub captures_further : ℕ → Captures → Captures
captures_further d caps = with_slots caps (map (slot_further d) (captures_slots caps))

-- The captures tell what a search from k on finds in each content that the stream may become. They
-- have their positions in the kept bytes.
abbrev pub TellsFrom : Streaming → List ℕ → Captures → (List ℕ → ℕ) → Type 0
TellsFrom s fed caps k = (content : List ℕ) → MayBecome s.is_finished fed content →
    TellsBy (regex_kind s.regex) (from_on (over_content (seeks s.regex) content) (k content))
    (captures_further s.gone caps)

-- They tell the next match, with its groups.
abbrev pub TellsNext : Streaming → List ℕ → Captures → Type 0
TellsNext s fed caps = TellsFrom s fed caps (λ content.
    next_start (regex_kind s.regex) (over_content (seeks s.regex) content) s.from s.last)

-- The next match of each content that the stream may become is looked for from k on.
abbrev pub IsNext : Streaming → List ℕ → ℕ → Type 0
IsNext s fed k = (content : List ℕ) → MayBecome s.is_finished fed content →
    next_start (regex_kind s.regex) (over_content (seeks s.regex) content) s.from s.last ≡ k

-- They are of this match of the stream.
abbrev pub AreOf : Streaming → Captures → Found → Type 0
AreOf s caps m = option_map (match_further s.gone) (match_of caps) ≡ Some m

-- They tell a match that a search of the kept bytes finds, with its groups there.
abbrev pub TellsKept : Streaming → Captures → Type 0
TellsKept s caps = (at : ℕ) × TellsBy (regex_kind s.regex)
    (from_on (over_content (seeks s.regex) s.kept) at) caps
