use Rattle.std.proofs.Common.{arith}
use Rattle.live_matches.proofs.Bounds.{all_counted}
use Rattle.live_matches.proofs.lengths.longest_of.Goals as goal

pub returns : goal.returns
returns c = all_counted c.args.hirs.now c.patterns.hir-index c.patterns.longest (omega (arith, c.patterns-test.false)) c.patterns.invariant
