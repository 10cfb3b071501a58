-- What an iterator seeks by, as contracts see it.
use Rattle.std.specs.Prelude.{ℕ, Bool, Option}
use Rattle.rc_text.specs.Text.{Searched}
use Rattle.rc_strategy.specs.declared.cache.Cache.{Cache}
use Rattle.api_meta.specs.declared.regex.Regex.{Regex}
use Rattle.api_meta.specs.declared.seeker.Standing.{Standing}

-- A regex, its cache, where the last match ended, and whether none comes any more.
pub record Seeking : Type 0 where
  pub regex : Regex
  pub cache : Cache
  pub last : Option ℕ
  pub is_done : Bool

-- by a regex and a cache, from where a list stands
abbrev pub seeking : Regex → Cache → Standing → Seeking
seeking r c s = record { regex = r; cache = c; last = s.last; is_done = s.is_done }

-- The same, in a cache for searches with all groups.
pub record GroupSeeking : Type 0 where
  pub seeker : Seeking

-- By what an iterator over matches seeks, and its input.
pub record Finding : Type 0 where
  pub seeker : Seeking
  pub input : Searched
