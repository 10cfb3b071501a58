use Rattle.std.proofs.Common.{◌≡◌, ◌++◌, ◌+◌, ◌-◌, vec_len}
use Rattle.rc_utf8.specs.Bytes.{tails}
use Rattle.rc_utf8.specs.Places.{places_of}
use Rattle.rc_utf8.proofs.program.tree.add_tails.Given as goal

abbrev pub invariant-loop-i : goal.invariant-loop-i
invariant-loop-i l = record {
  long : vec_len l.blocks ≡ vec_len l.initial.blocks + l.i;
  more : places_of l.blocks.items ++ tails (l.exits.count - l.i) (l.exits.tail + l.i) l.exits.next
      ≡ places_of l.initial.blocks.items ++ tails l.exits.count l.exits.tail l.exits.next;
}
