use Rattle.std.proofs.Common.{◌≡◌, ◌≤◌, ◌-◌, ◌*◌, length, take}
use Rattle.rc_text.specs.Joined.{joined}
use Rattle.rc_text.proofs.chunks.count_to.Given as goal

abbrev pub invariant-loop-done : goal.invariant-loop-done
invariant-loop-done l = record {
  within : l.done ≤ length l.chunks;
  total : l.count.total ≡ length (joined (take l.done l.chunks));
  bound : l.count.total ≤ l.done * 18446744073709551615;
  index : l.count.index ≤ l.done;
  offset : l.count.offset ≡ length (joined (take l.count.index l.chunks));
  low : l.count.offset ≤ l.at;
}

abbrev pub decreases-loop-done : goal.decreases-loop-done
decreases-loop-done l = length l.chunks - l.done
