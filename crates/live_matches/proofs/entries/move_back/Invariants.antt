use Rattle.std.proofs.Common.{◌≡◌, ◌++◌, length}
use Rattle.live_matches.specs.Entries.{Rise, counted_back, entries_of}
use Rattle.live_matches.proofs.entries.move_back.Given as goal

-- the same entries, wherever the gap is
abbrev pub invariant-back : goal.invariant-back
invariant-back l = record {
  rise : Rise l.len 0 l.sides.before;
  all : entries_of l.sides.before ++ counted_back l.len l.sides.after
      ≡ entries_of l.fn.sides.before ++ counted_back l.len l.fn.sides.after;
}

abbrev pub decreases-back : goal.decreases-back
decreases-back l = length l.sides.before
