use Rattle.std.proofs.Common.{◌≡◌, ◌++◌, length}
use Rattle.live_matches.specs.Entries.{AreBelow, Rise, counted_back, entries_of}
use Rattle.live_matches.proofs.entries.move_on.Given as goal

-- the same entries, wherever the gap is
abbrev pub invariant-on : goal.invariant-on
invariant-on l = record {
  rise : Rise l.len 0 l.sides.before;
  below : AreBelow l.at (entries_of l.sides.before);
  all : entries_of l.sides.before ++ counted_back l.len l.sides.after
      ≡ entries_of l.fn.sides.before ++ counted_back l.len l.fn.sides.after;
}

abbrev pub decreases-on : goal.decreases-on
decreases-on l = length l.sides.after
