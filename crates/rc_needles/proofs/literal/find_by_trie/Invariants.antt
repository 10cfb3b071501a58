use Rattle.std.proofs.Common.{◌-◌, ◌≤◌}
use Rattle.rc_text.specs.Text.{Keeps}
use Rattle.rc_needles.specs.Tables.{needles_in}
use Rattle.rc_needles.proofs.FindLemmas.{NoneBefore}
use Rattle.rc_needles.proofs.literal.find_by_trie.Given as goal

abbrev pub invariant-loop-at : goal.invariant-loop-at
invariant-loop-at g l = record {
  keeps : Keeps l.fn.input l.input;
  from : l.from ≤ l.at;
  none_before : NoneBefore (needles_in l.table.needles.items) l.fn.input.content l.end l.from l.at;
}

abbrev pub decreases-loop-at : goal.decreases-loop-at
decreases-loop-at g l = l.end - l.at
