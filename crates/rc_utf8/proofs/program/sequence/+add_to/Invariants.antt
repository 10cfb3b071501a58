use Rattle.std.proofs.Common.{length}
use Rattle.rc_utf8.proofs.program.sequence.+add_to.Given as goal

abbrev pub decreases-add_to : goal.decreases-add_to
decreases-add_to l = length l.high.now
