use Rattle.std.proofs.Common.{ℕ, ◌≤◌, ◌-◌, length}
use Rattle.rc_program.specs.Matches.{AreInOrder, begin_of, end_of}
use Rattle.live_matches.specs.Live.{listed}
use Rattle.live_matches.proofs.Cuts.{AreLeft}
use Rattle.live_matches.proofs.live.LiveMatches.index_from.Given as goal

-- the place is between the two
abbrev pub invariant-halves : goal.invariant-halves
invariant-halves l = record {
  order : l.low ≤ l.high;
  inside : l.high ≤ length (listed l.fn.self);
  left : (hi : ℕ) → AreInOrder begin_of end_of hi (listed l.fn.self) → AreLeft l.place (listed l.fn.self) l.low l.high;
}

abbrev pub decreases-halves : goal.decreases-halves
decreases-halves l = l.high - l.low
