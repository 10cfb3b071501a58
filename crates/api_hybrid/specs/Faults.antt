-- Why a search ends without an answer, and when states are let go.
use Rattle.std.specs.Prelude.{◌≡◌, ◌⊎◌, ℕ, ◌+◌, ◌-◌, ◌*◌, ◌<◌, ◌≤◌, Bool, true, false}
use Rattle.rc_text.specs.Text.{Searched, low, high}
use Rattle.rc_text.specs.declared.types.MatchError.{MatchError}
use Rattle.rc_text.specs.declared.types.MatchError.TheVariants.{Quit, GaveUp}
use Rattle.rc_program.specs.Matches.{from_on}
use Rattle.rc_program.specs.Sought.{search_for}
use Rattle.rc_lazy_dfa.specs.Caches.{CountsBoth}
use Rattle.rc_dfa_search.specs.Faults.{IsFault, MayQuit}
use Rattle.api_hybrid.specs.Caches.{capacity_of, clears_of, usage_of}
use Rattle.api_hybrid.specs.Views.{least_of, sought}
use Rattle.api_hybrid.specs.declared.cache.Cache.{Cache}
use Rattle.api_hybrid.specs.declared.regex.Regex.{Regex}

-- A table may be short in a search of the input: what the cache holds, and the least capacity for each of so many states, pass the capacity.
abbrev pub MayBeShort : Regex → Searched → Cache → Type 0
MayBeShort re i c = capacity_of c < usage_of c + (high i - low i + 4) * (high i - low i + 4) * least_of re

-- The count never falls, and rises by so many at most. In each direction its own count tells whether its states were let go: while it is the same,
-- each is held; if it rose, none is held but those that were added since.
abbrev pub RisesBy : ℕ → Cache → Cache → Type 0
RisesBy n old new = (clears_of old ≤ clears_of new) × (clears_of new ≤ clears_of old + n) × CountsBoth old.inner new.inner n

-- all states were let go only where a table may have been short, and at most once for each state that the search may add
abbrev pub ClearsWhereShort : Regex → Searched → Cache → Cache → Type 0
ClearsWhereShort re i old new =
    RisesBy ((high i - low i + 4) * (high i - low i + 4)) old new × ((clears_of new ≡ clears_of old) ⊎ MayBeShort re i old)

-- why a search was given up: memory was refused; or all states were let go three times before, and a table may have been short
abbrev pub MayGiveUp : Regex → Searched → Cache → Cache → Bool → Type 0
MayGiveUp re i old new true = Unit {0}
MayGiveUp re i old new false = (3 ≤ clears_of new) × MayBeShort re i old

-- a search of the input ended so: it quit at a byte, or was given up between its bounds
abbrev pub IsFaultOf : Regex → Searched → Cache → Cache → MatchError → Type 0
IsFaultOf re i old new (Quit b p) = MayQuit (sought re).patterns (search_for (sought re) i) b p
IsFaultOf re i old new (GaveUp p memory) = (low i ≤ p) × (p ≤ high i) × MayGiveUp re i old new memory

-- a search added so many states in each direction at most, or a table may have been short
abbrev pub GrowsWhereRoomy : Regex → Searched → Cache → Cache → Type 0
GrowsWhereRoomy re i old new =
    (usage_of new ≤ usage_of old + 2 * ((high i - low i + 4) * (high i - low i + 4) * least_of re)) ⊎ MayBeShort re i old

-- A table may be short in a search of the input for a next match, which is at most two searches: what the cache holds, and three times the least
-- capacity for each of so many states, pass the capacity.
abbrev pub MayBeShortNext : Regex → Searched → Cache → Type 0
MayBeShortNext re i c = capacity_of c < usage_of c + 3 * ((high i - low i + 4) * (high i - low i + 4) * least_of re)

-- all states were let go in a search for a next match only where a table may have been short, and at most once for each state that its two searches
-- may add
abbrev pub ClearsWhereShortNext : Regex → Searched → Cache → Cache → Type 0
ClearsWhereShortNext re i old new =
    RisesBy (2 * ((high i - low i + 4) * (high i - low i + 4))) old new × ((clears_of new ≡ clears_of old) ⊎ MayBeShortNext re i old)

-- why a search for a next match was given up: memory was refused; or all states were let go three times before, and a table may have been short
abbrev pub MayGiveUpNext : Regex → Searched → Cache → Cache → Bool → Type 0
MayGiveUpNext re i old new true = Unit {0}
MayGiveUpNext re i old new false = (3 ≤ clears_of new) × MayBeShortNext re i old

-- The search of the input for a next match ended so: the one from its span's start on, or the one from a byte later. It quit at a byte, or was given
-- up between its bounds.
pub record IsNextFault (re : Regex) (i : Searched) (old new : Cache) (e : MatchError) : Type 0 where
  pub start : ℕ
  pub near : (i.span.start ≤ start) × (start ≤ i.span.start + 1)
  pub fault : IsFault (sought re).patterns (from_on (search_for (sought re) i) start) (MayGiveUpNext re i old new) e
