use Rattle.std.proofs.Common.{◌≡◌, ◌++◌, ◌+◌, drop, vec_len}
use Rattle.rc_program.specs.Program.{literal_part}
use Rattle.rc_program.specs.Places.{places_of}
use Rattle.rc_compile.proofs.compile.emit.emit_literal.Given as goal

abbrev pub invariant-loop-i : goal.invariant-loop-i
invariant-loop-i l = record {
  long : vec_len l.places ≡ vec_len l.initial.places + l.i;
  more : places_of l.places.items ++ (literal_part (drop l.i l.bytes.items)).places 0 (vec_len l.places) l.next
      ≡ places_of l.initial.places.items ++ (literal_part l.bytes.items).places 0 (vec_len l.initial.places) l.next;
}
