-- What an iterator finds by.
use Rattle.std.specs.Borrow.{GName}
use Rattle.api_hybrid.specs.declared.cache.Cache.{Cache}
use Rattle.api_hybrid.specs.declared.regex.Regex.{Regex}

-- A regex, what the cache holds in which it searches, and the ghost name of the reference to that.
pub record Finding : Type 0 where
  pub regex : Regex
  pub cache : Cache
  pub lender : GName
