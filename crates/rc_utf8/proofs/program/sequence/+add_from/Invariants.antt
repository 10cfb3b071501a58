use Rattle.std.proofs.Common.{length}
use Rattle.rc_utf8.proofs.program.sequence.+add_from.Given as goal

abbrev pub decreases-add_from : goal.decreases-add_from
decreases-add_from l = length l.low.now
