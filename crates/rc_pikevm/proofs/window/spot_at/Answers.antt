use Rattle.std.proofs.Common.{arith}
use Rattle.rc_pikevm.proofs.NearLemmas.{is_near}
use Rattle.rc_pikevm.proofs.window.spot_at.Goals as goal

pub returns-clause-here : goal.returns-clause-here
returns-clause-here g c = record {
  setting = c.requires.0;
  near = is_near g.text c.args.at c.args.window.now c.requires.1.0 c.requires.1.1.0 c.requires.1.1.1.0 c.args.course.program.now
      (omega (arith, c.requires.0.bound, c.requires.1.1.1.1));
}
