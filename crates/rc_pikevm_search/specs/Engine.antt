-- The Pike VM as an engine: what it searches.
use Rattle.std.specs.Prelude.{◌≡◌, ℕ, ◌+◌, ◌-◌, ◌*◌, ◌<◌, ◌≤◌, length, Option, IfSome, MatchOption}
use Rattle.rc_text.specs.Found.{Found}
use Rattle.rc_text.specs.Text.{Searched, high, low}
use Rattle.rc_program.specs.Answer.{Search}
use Rattle.rc_program.specs.Columns.{row_width}
use Rattle.rc_program.specs.Places.{places_of}
use Rattle.rc_program.specs.Programs.{search_of}
use Rattle.rc_pikevm.specs.Caches.{Made, IsCacheFor}
use Rattle.rc_pikevm_search.specs.Choices.{answering_for}
use Rattle.rc_pikevm_search.specs.declared.engine.Engine.{Engine}

-- The search of an input by an engine.
abbrev pub engine_search : Engine → Searched → Search
engine_search e = search_of e.program

-- The cache is made for searches by this engine with so many slots.
abbrev pub IsEngineCache : Engine → ℕ → Made → Type 0
IsEngineCache e slots cache = IsCacheFor (places_of e.program.places.items) (row_width (places_of e.program.places.items) slots) cache

-- The second cache is made for what the first is made for, and its lists have the same room.
abbrev pub IsSameCache : Made → Made → Type 0
IsSameCache c d = d ≡ record c { insertions = d.insertions }

-- A pass over the input that found o entered n places. That is none if the bounds cross, and else
-- at most all of them for each position of the bounds, and for two more. It is at least one for
-- each position of the match, and one more.
pub record IsCount (e : Engine) (s : Searched) (o : Option Found) (n : ℕ) : Type 0 where
  pub none : high s < low s → n ≡ 0
  pub few : n ≤ length e.program.places.items * (high s - low s + 2)
  pub counted : IfSome o (λ m. m.end - m.start + 1 ≤ n)

-- A search of the input that found o leaves this in the cache: the count of its pass; or all as it
-- was, if literals alone decide the match and no pass is made.
abbrev pub Counts : Engine → Searched → Option Found → Made → Made → Type 0
Counts e s o c d = MatchOption (answering_for e.kind e.literals) (IsCount e s o d.insertions) (λ _. d ≡ c)
