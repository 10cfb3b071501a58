use Rattle.rc_literals.proofs.LeaveLemmas.{IsLeft, range_reads}
use Rattle.rc_literals.proofs.stops.pass_byte_ranges.Given as goal

abbrev pub invariant-loop-range : goal.invariant-loop-range
invariant-loop-range l = IsLeft range_reads l.initial.table l.table l.ranges l.range-index
