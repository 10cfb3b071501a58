use Rattle.std.proofs.Common.{◌≡◌, ℕ, ◌<◌, ◌≤◌, false, length}
use Rattle.std.specs.Prelude.{slice_index}
use Rattle.rc_literals.specs.Needs.{is_stop}
use Rattle.rc_literals.proofs.guard.stopped_len.Given as goal

abbrev pub invariant-loop-left : goal.invariant-loop-left
invariant-loop-left l = record {
  within : l.left ≤ length l.piece;
  none : (k : ℕ) → l.left ≤ k → k < length l.piece → is_stop l.stops.table (slice_index l.piece k) ≡ false;
}

abbrev pub decreases-loop-left : goal.decreases-loop-left
decreases-loop-left l = l.left
