use Rattle.std.proofs.Common.{◌≡◌, ◌<◌, ◌≤◌, ℕ, None, Some, slice_index_or}
use Rattle.rc_onepass.specs.Rows.{Fills}
use Rattle.rc_onepass.proofs.row.enter_range.Given as goal

abbrev pub invariant-loop-byte : goal.invariant-loop-byte
invariant-loop-byte l = record {
  fills : Fills l.initial.transitions l.transitions;
  entered : (b : ℕ) → l.first ≤ b → b < l.byte → slice_index_or l.transitions b None ≡ Some l.transition;
}
