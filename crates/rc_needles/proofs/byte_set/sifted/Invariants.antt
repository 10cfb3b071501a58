use Rattle.std.proofs.Common.{◌≤◌, ◌-◌, length}
use Rattle.rc_needles.proofs.ByteSetLemmas.{NoneTaken}
use Rattle.rc_needles.proofs.byte_set.sifted.Given as goal

abbrev pub invariant-loop-at : goal.invariant-loop-at
invariant-loop-at l = record { within : l.at ≤ length l.piece; none : NoneTaken l.sift l.piece l.at }

abbrev pub decreases-loop-at : goal.decreases-loop-at
decreases-loop-at l = length l.piece - l.at
