use Rattle.std.proofs.Common.{◌≡◌, ◌≤◌, length}
use Rattle.rc_needles.specs.Tables.{AreHeads, AreNexts, needles_in}
use Rattle.rc_needles.proofs.table.table_of.Given as goal

abbrev pub invariant-loop-number : goal.invariant-loop-number
invariant-loop-number l = record {
  within : l.number ≤ length l.needles.items;
  head_count : length l.heads.items ≡ 256;
  next_count : length l.nexts.items ≡ length l.needles.items;
  headed : AreHeads (needles_in l.needles.items) l.number l.heads.items;
  linked : AreNexts (needles_in l.needles.items) l.number l.nexts.items;
}

abbrev pub decreases-loop-number : goal.decreases-loop-number
decreases-loop-number l = l.number
