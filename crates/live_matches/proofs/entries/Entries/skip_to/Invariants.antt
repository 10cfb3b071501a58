use Rattle.std.proofs.Common.{◌≡◌, ◌++◌, length, List}
use Rattle.live_matches.specs.Entry.{Entry}
use Rattle.live_matches.specs.Entries.{last_end}
use Rattle.live_matches.proofs.entries.Entries.skip_to.Given as goal

-- those dropped so far
abbrev pub invariant-skip : goal.invariant-skip
invariant-skip l = (dropped : List Entry) × record {
  split : l.fn.self.after ≡ dropped ++ l.self.after;
  mark : l.mark ≡ last_end l.fn.mark dropped;
  before : l.self.before ≡ l.fn.self.before;
  len : l.self.len ≡ l.fn.self.len;
}

abbrev pub decreases-skip : goal.decreases-skip
decreases-skip l = length l.self.after
