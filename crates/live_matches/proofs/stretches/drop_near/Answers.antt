use Rattle.live_matches.proofs.Stretched.{none_gone}
use Rattle.live_matches.proofs.stretches.drop_near.Goals as goal

pub returns-in-None-clause-gone : goal.returns-in-None-clause-gone
returns-in-None-clause-gone c = none_gone c.args.entries.now c.drop_after.new.self c.drop_after.ensures
