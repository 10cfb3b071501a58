-- What caches are made for.
use Rattle.std.specs.Prelude.{◌≡◌, ℕ, List}
use Rattle.rc_pattern.specs.Re.{Re}
use Rattle.rc_captures.specs.Names.{slot_len}
use Rattle.rc_program.specs.Columns.{row_width}
use Rattle.rc_program.specs.Program.{program, shown}
use Rattle.rc_settings.specs.Which.{is_grouped}
use Rattle.rc_build.specs.Names.{names_shown}
use Rattle.rc_settings.specs.Settings.{Settings, which_captures_of}
use Rattle.rc_strategy.specs.Caches as engines
use Rattle.rc_strategy.specs.declared.cache.Cache as inner
use Rattle.api_meta.specs.Plans.{plan_by}
use Rattle.api_meta.specs.declared.cache.Cache.{Cache}
use Rattle.api_meta.specs.declared.regex.Regex.{Regex}

-- The cache was made for searches by patterns under settings: it has room for their program, and for rows of the slots of all
-- groups that are kept; and the states that it holds are those of their tables.
abbrev pub IsCacheFor : List Re → Settings → Cache → Type 0
IsCacheFor hs s cache =
    engines.IsCacheBy (program (shown (is_grouped (which_captures_of s)) hs))
    (row_width (program (shown (is_grouped (which_captures_of s)) hs)) (slot_len (names_shown (is_grouped (which_captures_of s)) hs)))
    (plan_by hs s) cache.inner

-- Each list of the second cache has room for as many elements as in the first, but for those of states of a lazy DFA.
abbrev pub HasSameRoom : Cache → Cache → Type 0
HasSameRoom old new = new.inner.pass.room ≡ old.inner.pass.room

-- the cache of an iterator was made for searches by the regex with so many slots
abbrev pub IsCacheIn : Regex → ℕ → inner.Cache → Type 0
IsCacheIn r slots cache = engines.IsCacheIn r.engines slots cache
