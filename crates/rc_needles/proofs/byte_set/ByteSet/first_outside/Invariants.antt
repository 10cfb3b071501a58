use Rattle.std.proofs.Common.{◌≤◌, ◌-◌, length}
use Rattle.rc_needles.specs.ByteSets.{AreInside}
use Rattle.rc_needles.proofs.byte_set.ByteSet.first_outside.Given as goal

abbrev pub invariant-loop-index : goal.invariant-loop-index
invariant-loop-index l = record { within : l.index ≤ length l.piece; passed : AreInside l.self.flags l.piece l.index }

abbrev pub decreases-loop-index : goal.decreases-loop-index
decreases-loop-index l = length l.piece - l.index
