-- What caches are made for, and what they count.
use Rattle.std.specs.Prelude.{ℕ}
use Rattle.rc_lazy_dfa.specs.Caches as lazy
use Rattle.api_hybrid.specs.declared.cache.Cache.{Cache}
use Rattle.api_hybrid.specs.declared.regex.Regex.{Regex}

-- The cache was made for searches by this regex: what its tables say is true of them, and each holds no more than the capacity.
abbrev pub IsCacheFor : Regex → Cache → Type 0
IsCacheFor re c = lazy.IsCacheOf re.lazy c.inner

-- it has no states, and none were let go
abbrev pub IsFresh : Cache → Type 0
IsFresh c = lazy.IsFreshCache c.inner

-- how many bytes hold the states of both directions
abbrev pub usage_of : Cache → ℕ
usage_of c = lazy.usage_of c.inner

-- how many bytes may hold the states of each direction
abbrev pub capacity_of : Cache → ℕ
capacity_of c = lazy.capacity_of c.inner

-- how often all states were let go, in the direction where that is more
abbrev pub clears_of : Cache → ℕ
clears_of c = lazy.clears_of c.inner
