use Rattle.std.proofs.Common.{◌-◌, ◌≤◌, length}
use Rattle.rc_needles.specs.Teddies.{HaveBegun}
use Rattle.rc_needles.proofs.TeddyLemmas.{NoneSifted}
use Rattle.rc_needles.proofs.teddy.Teddy.place_by_blocks.Given as goal

abbrev pub invariant-loop-at : goal.invariant-loop-at
invariant-loop-at l = record {
  within : l.at ≤ length l.piece;
  begun : HaveBegun l.self l.piece l.at l.before;
  passed : NoneSifted l.self l.piece 0 (l.at - 2);
}

abbrev pub decreases-loop-at : goal.decreases-loop-at
decreases-loop-at l = length l.piece - l.at
