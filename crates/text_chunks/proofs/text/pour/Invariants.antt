use Rattle.std.proofs.Common.{◌≤◌, length}
use Rattle.text_chunks.specs.Piles.{Moves}
use Rattle.text_chunks.proofs.text.pour.Given as goal

abbrev pub invariant-loop-from : goal.invariant-loop-from
invariant-loop-from l = record {
  moved : Moves l.initial.from l.initial.to l.from l.to;
  enough : l.count ≤ length l.from;
}

abbrev pub decreases-loop-from : goal.decreases-loop-from
decreases-loop-from l = length l.from
