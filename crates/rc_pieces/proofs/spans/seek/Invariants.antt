use Rattle.std.proofs.Common.{◌≡◌, ◌≤◌, ◌-◌, length}
use Rattle.rc_pieces.proofs.spans.seek.Given as goal

abbrev pub invariant-loop-cursor : goal.invariant-loop-cursor
invariant-loop-cursor g l = g.C.Cursor.content l.cursor ≡ g.C.Cursor.content l.fn.cursor

abbrev pub decreases-loop-cursor : goal.decreases-loop-cursor
decreases-loop-cursor g l = g.C.Cursor.offset l.cursor

abbrev pub invariant-loop-cursor-2 : goal.invariant-loop-cursor-2
invariant-loop-cursor-2 g l = record {
  content : g.C.Cursor.content l.cursor ≡ g.C.Cursor.content l.fn.cursor;
  low : g.C.Cursor.offset l.cursor ≤ l.at;
}

abbrev pub decreases-loop-cursor-2 : goal.decreases-loop-cursor-2
decreases-loop-cursor-2 g l = length (g.C.Cursor.content l.cursor) - g.C.Cursor.offset l.cursor
