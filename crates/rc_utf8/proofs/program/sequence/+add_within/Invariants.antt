use Rattle.std.proofs.Common.{length}
use Rattle.rc_utf8.proofs.program.sequence.+add_within.Given as goal

abbrev pub decreases-add_within : goal.decreases-add_within
decreases-add_within l = length l.low.now
