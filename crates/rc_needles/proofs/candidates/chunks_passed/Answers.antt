use Rattle.std.proofs.Common.{arith, refl, ◌≡◌, ◌+◌, length, slice_range}
use Rattle.rc_needles.proofs.FindLemmas.{more_placed, keeps_on}
use Rattle.rc_needles.proofs.candidates.chunks_passed.Goals as goal

pub returns-then-passed-len-clause-passed : goal.returns-then-passed-len-clause-passed
returns-then-passed-len-clause-passed g c =
    let content = c.args.input.now.content in
    let look = c.args.look.now in
    let chunk = c.chunk-chunk.result.now in
    let same : c.loop-input.input.content ≡ content = c.loop-input.invariant.keeps.content in
    let is : chunk ≡ slice_range content c.loop-input.at (c.loop-input.at + length chunk) =
    rw (c.chunk-chunk.ensures.value, ← same) (c.loop-input-test.ensures.bytes refl) in
    more_placed (g.L.Candidates.needles look) content chunk c.args.end (g.L.Candidates.offset look) c.args.from c.loop-input.at
    c.in-Some.passed c.loop-input.invariant.passed is c.in-Some.ensures.passed

pub loop-input-preserved : goal.loop-input-preserved
loop-input-preserved g c =
    let content = c.args.input.now.content in
    let look = c.args.look.now in
    let chunk = c.chunk-chunk.result.now in
    let same : c.loop-input.input.content ≡ content = c.loop-input.invariant.keeps.content in
    let is : chunk ≡ slice_range content c.loop-input.at (c.loop-input.at + length chunk) =
    rw (c.chunk-chunk.ensures.value, ← same) (c.loop-input-test.ensures.bytes refl) in
    record {
      keeps = keeps_on c.args.input.now c.loop-input.input c.takes_next.new.input c.loop-input.invariant.keeps c.takes_next.ensures.keeps;
      from = omega (arith, c.loop-input.invariant.from);
      passed = more_placed (g.L.Candidates.needles look) content chunk c.args.end (g.L.Candidates.offset look) c.args.from c.loop-input.at
          c.in-Some.passed c.loop-input.invariant.passed is c.in-Some.ensures.passed;
    }
