use Rattle.std.proofs.Common.{ℕ, ◌-◌, ◌<◌, ◌≤◌, length}
use Rattle.rc_needles.specs.Tables.{IsRuledOut, needles_in}
use Rattle.rc_needles.proofs.many.candidate_in.Given as goal

abbrev pub invariant-loop-at : goal.invariant-loop-at
invariant-loop-at l = record {
  within : l.at ≤ length l.piece;
  passed : (k : ℕ) → k < l.at → IsRuledOut (needles_in l.table.needles.items) 0 l.piece k;
}

abbrev pub decreases-loop-at : goal.decreases-loop-at
decreases-loop-at l = length l.piece - l.at
