use Rattle.std.proofs.Common.{◌≡◌, ◌≤◌, ◌-◌}
use Rattle.rc_pieces.proofs.slices.SliceCursor.at.Given as goal

abbrev pub invariant-loop-cursor : goal.invariant-loop-cursor
invariant-loop-cursor g l = record {
  pieces : l.cursor.pieces ≡ l.initial.cursor.pieces;
  low : l.cursor.offset ≤ l.at;
}

abbrev pub decreases-loop-cursor : goal.decreases-loop-cursor
decreases-loop-cursor g l = l.cursor.total - l.cursor.offset
