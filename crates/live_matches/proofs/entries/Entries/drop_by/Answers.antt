use Rattle.live_matches.proofs.Stretched.{gone_on}
use Rattle.live_matches.proofs.entries.Entries.drop_by.Goals as goal

-- one more is dropped
pub by-preserved : goal.by-preserved
by-preserved c = gone_on c.args.self.now c.by.self c.take_next_ending.new.self c.by.invariant c.take_next_ending.ensures.gone

pub returns : goal.returns
returns c = gone_on c.args.self.now c.by.self c.take_next_ending.new.self c.by.invariant c.take_next_ending.ensures.gone
