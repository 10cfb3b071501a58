use Rattle.std.proofs.Common.{length}
use Rattle.live_matches.specs.Quiet.{HasGone}
use Rattle.live_matches.proofs.entries.Entries.drop_by.Given as goal

-- those dropped so far are gone
abbrev pub invariant-by : goal.invariant-by
invariant-by l = HasGone l.fn.self l.self

abbrev pub decreases-by : goal.decreases-by
decreases-by l = length l.self.after
