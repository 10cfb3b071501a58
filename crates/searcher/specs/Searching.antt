-- What a searcher holds, as contracts see it.
use Rattle.std.specs.Prelude.{ℕ, Option}
use Rattle.rc_captures.specs.declared.captures.Captures.{Captures}
use Rattle.rc_program.specs.Matches.{AreInOrder, begin_of, end_of}
use Rattle.api_meta.specs.declared.regex.Regex.{Regex}
use Rattle.live_matches.specs.Live.{Listed, listed}
use Rattle.stream_search.specs.Searching.{Streaming}
use Rattle.stream_search.specs.Stepping.{Stepping}

-- A regex, the groups of its last search for groups, the state of an iteration: where the next search begins, and where the match before it
-- ended; the list of the matches of a text, a search of a stream, and one in slices, if it keeps them.
pub record Searching : Type 0 where
  pub regex : Regex
  pub captures : Captures
  pub from : ℕ
  pub last : Option ℕ
  pub live : Option Listed
  pub stream : Option Streaming
  pub stepper : Option Stepping

-- Each match of the list begins where the one before ended or later.
abbrev pub IsInOrder : Listed → Type 0
IsInOrder l = AreInOrder begin_of end_of 18446744073709551615 (listed l)
