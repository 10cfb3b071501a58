use Rattle.std.proofs.Common.{◌≤◌, slice_range}
use Rattle.rc_determinize.proofs.GroupLemmas.{AreOther}
use Rattle.rc_determinize.proofs.longest.group_end.Given as goal

abbrev pub invariant-loop-index : goal.invariant-loop-index
invariant-loop-index l = (l.from ≤ l.index) × AreOther l.mark (slice_range l.list l.from l.index)
