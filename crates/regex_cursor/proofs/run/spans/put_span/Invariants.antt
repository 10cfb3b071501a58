use Rattle.std.proofs.Common.{◌≡◌, ◌-◌, ◌≤◌, max, slice_range}
use Rattle.std.specs.Io.KnownBytes.{Appends}
use Rattle.regex_cursor.proofs.run.spans.put_span.Given as goal

-- the bytes up to `from` were put
abbrev pub invariant-loop-from : goal.invariant-loop-from
invariant-loop-from g l = record {
  content : g.C.Cursor.content l.cursor ≡ g.C.Cursor.content l.initial.cursor;
  low : l.span.start ≤ l.from;
  high : l.from ≤ max l.span.start l.span.end;
  put : Appends (g.W.Sink.taken l.initial.out) (g.W.Sink.taken l.out) (slice_range (g.C.Cursor.content l.initial.cursor) l.span.start l.from);
  sound : g.W.Sink.has_failed l.out ≡ g.W.Sink.has_failed l.initial.out;
}

abbrev pub decreases-loop-from : goal.decreases-loop-from
decreases-loop-from g l = l.span.end - l.from
