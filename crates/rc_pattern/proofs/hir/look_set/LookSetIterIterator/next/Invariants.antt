use Rattle.std.proofs.Common.{◌≡◌, length}
use Rattle.rc_pattern.specs.LookSets.{looks_left}
use Rattle.rc_pattern.proofs.hir.look_set.LookSetIterIterator.next.Given as goal

abbrev pub invariant-loop-look : goal.invariant-loop-look
invariant-loop-look l = (l.self.set ≡ l.initial.self.set) × (looks_left l.self ≡ looks_left l.initial.self)

abbrev pub decreases-loop-look : goal.decreases-loop-look
decreases-loop-look l = length l.self.left.now
