use Rattle.rc_literals.proofs.LeaveLemmas.{IsFar, IsLeft, near_reads}
use Rattle.rc_literals.proofs.stops.pass_char_ranges.Given as goal

abbrev pub invariant-loop-range : goal.invariant-loop-range
invariant-loop-range l = record {
  left : IsLeft near_reads l.initial.table l.table l.ranges l.range-index;
  far : IsFar l.is_far l.ranges l.range-index;
}
