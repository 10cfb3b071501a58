use Rattle.live_matches.proofs.Stretched.{taken}
use Rattle.live_matches.proofs.entries.Entries.take_next_ending.Goals as goal

pub returns-clause-gone : goal.returns-clause-gone
returns-clause-gone c = taken c.take_next.result c.args.self.now c.take_next.new.self c.take_next.ensures
