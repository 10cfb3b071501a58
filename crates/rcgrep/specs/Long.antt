-- Only proofs and the contracts of private functions use this file.
-- A line that is told piece by piece: what is known of its matches.
use Rattle.std.specs.Prelude.{◌≡◌, ◌<◌, ◌^◌, ℕ, Bool, false, true, List, [], ◌++◌, length}
use Rattle.api_meta.specs.declared.regex.Regex.{Regex}
use Rattle.stream_search.specs.Searching.{Streaming, WasFed}
use Rattle.rcgrep.specs.Picked.{has_match}
use Rattle.rcgrep.specs.declared.long_line.LongLine.{LongLine}

-- Each line that begins with these bytes has a match.
abbrev pub AlwaysMatches : Regex → List ℕ → Type 0
AlwaysMatches r bytes = (more : List ℕ) → length (bytes ++ more) < 2 ^ 64 → has_match r (bytes ++ more) ≡ true

-- A match was found, or the searcher was fed the bytes and gave none yet.
abbrev pub IsKnown : (is_found : Bool) → Streaming → List ℕ → Type 0
IsKnown true s bytes = AlwaysMatches s.regex bytes
IsKnown false s bytes = WasFed bytes [] s × (s.is_finished ≡ false)

-- These bytes of the line were told.
abbrev pub WasTold : LongLine → List ℕ → Type 0
WasTold s bytes = IsKnown s.is_found s.search bytes
