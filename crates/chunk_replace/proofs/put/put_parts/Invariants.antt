use Rattle.std.proofs.Common.{◌≡◌, take}
use Rattle.std.specs.Io.KnownBytes.{Appends}
use Rattle.chunk_replace.specs.Told.{told_parts}
use Rattle.chunk_replace.proofs.put.put_parts.Given as goal

-- the parts so far were put
abbrev pub invariant-loop-part : goal.invariant-loop-part
invariant-loop-part g l = record {
  content : g.C.Cursor.content l.cursor ≡ g.C.Cursor.content l.initial.cursor;
  put : Appends (g.W.Sink.taken l.initial.out) (g.W.Sink.taken l.out) (told_parts (g.C.Cursor.content l.initial.cursor) l.caps (take l.part-index l.parts));
  sound : g.W.Sink.has_failed l.out ≡ g.W.Sink.has_failed l.initial.out;
}
