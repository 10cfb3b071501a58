use Rattle.std.proofs.Common.{◌≡◌, ◌-◌, ◌<◌, ◌≤◌, ℕ, false}
use Rattle.rc_text.specs.Text.{Keeps}
use Rattle.rc_needles.specs.Needles.{stands_within}
use Rattle.rc_needles.proofs.long.pass_starts.Given as goal

abbrev pub invariant-loop-at : goal.invariant-loop-at
invariant-loop-at g l = record {
  keeps : Keeps l.fn.input l.input;
  low : l.from ≤ l.at;
  passed : (i : ℕ) → l.from ≤ i → i < l.at → stands_within l.fn.input.content l.end i l.needle ≡ false;
}

abbrev pub decreases-loop-at : goal.decreases-loop-at
decreases-loop-at g l = l.end - l.at
