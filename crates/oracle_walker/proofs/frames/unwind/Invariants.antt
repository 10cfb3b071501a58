use Rattle.std.proofs.Common.{length, reverse}
use Rattle.oracle_walker.specs.Frames.{IsMarked}
use Rattle.oracle_walker.proofs.frames.unwind.Given as goal

abbrev pub invariant-down : goal.invariant-down
invariant-down l = record {
  marked : IsMarked (length l.fn.marks) l.marks (reverse l.stack.items);
}

abbrev pub decreases-down : goal.decreases-down
decreases-down l = length l.stack.items
