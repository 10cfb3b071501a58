use Rattle.std.proofs.Common.{◌+◌, ◌-◌, ◌≤◌, List, Bool, length}
use Rattle.rc_lazy_dfa.specs.Overlaps.{IsUnderway}
use Rattle.rc_lazy_dfa.proofs.which.Ends.run.Given as goal

abbrev pub invariant-loop-place : goal.invariant-loop-place
invariant-loop-place g l = record {
  within : l.place ≤ length l.piece;
  some : (set : List Bool) × IsUnderway g.o l.self (l.from.at + l.place) l.row set;
  underway : (set : List Bool) → IsUnderway g.o l.self l.from.at l.from.row set → IsUnderway g.o l.self (l.from.at + l.place) l.row set;
}

abbrev pub decreases-loop-place : goal.decreases-loop-place
decreases-loop-place g l = length l.piece - l.place
