use Rattle.std.proofs.Common.{◌≡◌, length}
use Rattle.rc_program.specs.Places.{places_of}
use Rattle.rc_onepass.specs.Rows.{IsUnderWay}
use Rattle.rc_onepass.proofs.closure.row_of.Given as goal

abbrev pub invariant-loop-turn : goal.invariant-loop-turn
invariant-loop-turn l = record {
  whole : length l.row.transitions.items ≡ 128;
  under_way : IsUnderWay (places_of l.places) l.from l.row l.stack.items;
}
