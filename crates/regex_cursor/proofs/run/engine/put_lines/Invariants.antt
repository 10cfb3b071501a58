use Rattle.std.proofs.Common.{◌≡◌, ◌++◌, List, false, length, ◌<◌, IsTrue, ◌↔◌}
use Rattle.std.specs.Io.KnownBytes.{Appends}
use Rattle.rc_text.specs.Found.{Found}
use Rattle.regex_cursor.specs.Output.{lines_of}
use Rattle.api_meta.specs.Left.{find_left}
use Rattle.regex_cursor.proofs.run.engine.put_lines.Given as goal

-- the lines of the matches so far were put
abbrev pub invariant-loop-found : goal.invariant-loop-found
invariant-loop-found g l = record {
  so_far : (ms : List Found) × (find_left l.initial.found-iterator ≡ ms ++ find_left l.found-iterator) ×
      Appends (g.W.Sink.taken l.initial.out) (g.W.Sink.taken l.out) (lines_of ms) × (IsTrue l.is_found ↔ (0 < length ms));
  sound : g.W.Sink.has_failed l.out ≡ false;
}
