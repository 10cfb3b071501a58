use Rattle.std.proofs.Common.{◌+◌, ◌-◌, ◌≤◌}
use Rattle.rc_text.specs.Text.{Keeps}
use Rattle.rc_pikevm_search.specs.Engine.{engine_search}
use Rattle.rc_strategy.specs.Caches.{IsCacheIn, IsSameCacheIn}
use Rattle.rc_strategy.specs.Starts.{AddsBefore}
use Rattle.rc_strategy.proofs.engines.Engines.mark_by_starts.Given as goal

-- what begins before the position is marked
abbrev pub invariant-starts : goal.invariant-starts
invariant-starts g l = record {
  keeps : Keeps l.fn.input l.input;
  low : l.lo ≤ l.at;
  adds : AddsBefore (engine_search l.self.engine l.fn.input) l.at l.fn.set l.set;
  made : IsCacheIn l.self 0 l.cache;
  cache : IsSameCacheIn l.self l.fn.cache l.cache;
}

abbrev pub decreases-starts : goal.decreases-starts
decreases-starts g l = l.hi + 1 - l.at
