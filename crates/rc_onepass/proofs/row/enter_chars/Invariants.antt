use Rattle.std.proofs.Common.{◌≡◌, ◌<◌, ◌⊎◌, ℕ, IsTrue, None, Some, drop, map, slice_index_or}
use Rattle.rc_pattern.specs.Meaning.{char_range}
use Rattle.rc_program.specs.Program.{in_ranges}
use Rattle.rc_onepass.specs.Rows.{Fills}
use Rattle.rc_onepass.proofs.row.enter_chars.Given as goal

abbrev pub invariant-loop-range : goal.invariant-loop-range
invariant-loop-range l = record {
  fills : Fills l.initial.transitions l.transitions;
  entered : (b : ℕ) → b < 128 → IsTrue (in_ranges (map char_range l.ranges) b) →
      (slice_index_or l.transitions b None ≡ Some l.transition) ⊎ IsTrue (in_ranges (map char_range (drop l.range-index l.ranges)) b);
}
