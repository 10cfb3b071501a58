use Rattle.std.proofs.Common.{length}
use Rattle.cookbook.proofs.bytes.bytes_of.Given as goal

abbrev pub decreases-loop-bytes : goal.decreases-loop-bytes
decreases-loop-bytes g l = length l.pieces.left
