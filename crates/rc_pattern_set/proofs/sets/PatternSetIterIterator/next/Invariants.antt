use Rattle.std.proofs.Common.{◌≡◌, length}
use Rattle.rc_pattern_set.specs.Sets.{members_left}
use Rattle.rc_pattern_set.proofs.sets.PatternSetIterIterator.next.Given as goal

abbrev pub invariant-loop-mark : goal.invariant-loop-mark
invariant-loop-mark l = members_left l.self ≡ members_left l.initial.self

abbrev pub decreases-loop-mark : goal.decreases-loop-mark
decreases-loop-mark l = length l.self.left.now
