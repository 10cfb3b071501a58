use Rattle.std.proofs.Common.{◌-◌}
use Rattle.bench_find.proofs.count_searches.Given as goal

abbrev pub decreases-searches : goal.decreases-searches
decreases-searches l = l.len - l.at
