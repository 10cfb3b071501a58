use Rattle.std.proofs.Common.{◌<◌, ◌≤◌, length, ◌-◌}
use Rattle.rc_text.specs.Text.{Keeps}
use Rattle.rc_needles.specs.Tables.{needles_in, numbered, BeginsWithByte}
use Rattle.rc_needles.proofs.StandLemmas.{NoneBelow}
use Rattle.rc_needles.proofs.literal.needle_at.Given as goal

abbrev pub invariant-loop-number : goal.invariant-loop-number
invariant-loop-number g l = record {
  keeps : Keeps l.fn.input l.input;
  high : l.number ≤ length (needles_in l.table.needles.items);
  begins : l.number < length (needles_in l.table.needles.items) → BeginsWithByte (numbered (needles_in l.table.needles.items) l.number) l.byte;
  none_below : NoneBelow (needles_in l.table.needles.items) l.fn.input.content l.end l.at l.number;
}

abbrev pub decreases-loop-number : goal.decreases-loop-number
decreases-loop-number g l = length l.table.needles.items - l.number
