use Rattle.std.proofs.Common.{◌-◌}
use Rattle.rc_table_search.proofs.again.+run_on.Given as goal

abbrev pub decreases-run_on : goal.decreases-run_on
decreases-run_on g l = l.request.now.end - l.request.now.from
