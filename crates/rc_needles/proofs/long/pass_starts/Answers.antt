use Rattle.std.proofs.Common.{arith, sym}
use Rattle.rc_needles.proofs.FindLemmas.{keeps_on}
use Rattle.rc_needles.proofs.LongLemmas.{passed_on}
use Rattle.rc_needles.proofs.long.pass_starts.Goals as goal

pub loop-at-preserved : goal.loop-at-preserved
loop-at-preserved g c =
    let loop = c.loop-at in
    let last = c.in-Some.last in
    let within = c.in-Some.ensures in
    record {
      keeps = keeps_on c.args.input.now loop.input c.byte_at.new.input loop.invariant.keeps c.byte_at.ensures.keeps;
      low = omega (arith, loop.invariant.low, within.0);
      passed = passed_on c.args.input.now.content loop.input.content c.args.needle.now c.args.end c.args.from loop.at last c.in-Some-byte_at.byte
          loop.invariant.keeps.content loop.invariant.passed (sym c.in-Some-byte_at.ensures.value) c.in-None.ensures within.0 within.2;
    }
