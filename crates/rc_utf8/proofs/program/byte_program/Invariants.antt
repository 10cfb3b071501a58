use Rattle.std.proofs.Common.{◌≡◌, ◌≤◌, ◌++◌, ◌+◌, drop, length, vec_len}
use Rattle.rc_program.specs.Laws.{heaviness}
use Rattle.rc_program.specs.Places.{places_of as sources_of}
use Rattle.rc_utf8.specs.Bytes.{byte_places, blocks}
use Rattle.rc_utf8.specs.Places.{places_of}
use Rattle.rc_utf8.proofs.program.byte_program.Given as goal

abbrev pub invariant-loop-i : goal.invariant-loop-i
invariant-loop-i l = record {
  long : vec_len l.blocks + heaviness (sources_of (drop l.i l.program)) + l.i ≤ heaviness (sources_of l.program);
  places : places_of l.places.items ++ byte_places (length l.program + vec_len l.blocks) (sources_of (drop l.i l.program))
      ≡ byte_places (length l.program) (sources_of l.program);
  blocks : places_of l.blocks.items ++ blocks (length l.program + vec_len l.blocks) (sources_of (drop l.i l.program))
      ≡ blocks (length l.program) (sources_of l.program);
}
