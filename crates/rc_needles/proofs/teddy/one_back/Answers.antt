use Rattle.std.proofs.Common.{◌++◌}
use Rattle.rc_needles.proofs.TeddyLemmas.{picked}
use Rattle.rc_needles.proofs.teddy.one_back.Goals as goal

pub returns : goal.returns
returns c = picked (c.args.before ++ c.args.now) 15
