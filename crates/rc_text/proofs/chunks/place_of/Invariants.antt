use Rattle.std.proofs.Common.{◌≡◌, ◌≤◌, ◌-◌, length, take}
use Rattle.rc_text.specs.Joined.{joined}
use Rattle.rc_text.proofs.chunks.place_of.Given as goal

abbrev pub invariant-loop-index : goal.invariant-loop-index
invariant-loop-index l = record {
  within : l.index ≤ length l.chunks;
  start : l.offset ≡ length (joined (take l.index l.chunks));
  low : l.offset ≤ l.at;
}

abbrev pub decreases-loop-index : goal.decreases-loop-index
decreases-loop-index l = length l.chunks - l.index
