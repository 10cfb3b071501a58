use Rattle.std.proofs.Common.{arith}
use Rattle.live_matches.proofs.Gaps.{last_of}
use Rattle.live_matches.proofs.sides.Sides.last.Goals as goal

pub returns : goal.returns
returns c =
    last_of c.args.self.now.before c.saturating_sub.result c.get_before.result (omega (arith, c.saturating_sub.ensures, c.count_before.ensures))
    c.get_before.ensures
