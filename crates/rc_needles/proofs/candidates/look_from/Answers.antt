use Rattle.std.proofs.Common.{arith, ◌≡◌, ◌+◌, length, slice_range}
use Rattle.rc_needles.proofs.FindLemmas.{more_placed, placed_behind, keeps_on}
use Rattle.rc_needles.proofs.candidates.look_from.Goals as goal

pub returns-then-passed-len-clause-passed : goal.returns-then-passed-len-clause-passed
returns-then-passed-len-clause-passed g c =
    let content = c.args.input.now.content in
    let look = c.args.look.now in
    let piece = c.piece_from-piece.result.now in
    let same : c.loop-at.input.content ≡ content = c.loop-at.invariant.keeps.content in
    let is : piece ≡ slice_range content c.loop-at.at (c.loop-at.at + length piece) = rw (← same) c.piece_from-piece.ensures.bytes in
    more_placed (g.L.Candidates.needles look) content piece c.args.end (g.L.Candidates.offset look) c.args.from c.loop-at.at
    c.candidate-passed.result c.loop-at.invariant.passed is c.candidate-passed.ensures.passed

pub returns-then-reached-clause-passed : goal.returns-then-reached-clause-passed
returns-then-reached-clause-passed g c =
    let content = c.args.input.now.content in
    let look = c.args.look.now in
    let piece = c.piece_from-piece.result.now in
    let same : c.loop-at.input.content ≡ content = c.loop-at.invariant.keeps.content in
    let is : piece ≡ slice_range content c.loop-at.at (c.loop-at.at + length piece) = rw (← same) c.piece_from-piece.ensures.bytes in
    let here = c.piece_from-piece.follows.lender-at-none in
    let keeps = keeps_on c.args.input.now c.loop-at.input here c.loop-at.invariant.keeps c.piece_from-piece.follows.holds-at-none in
    placed_behind (g.L.Candidates.needles look) content here.content piece c.args.end (g.L.Candidates.offset look) c.args.from c.loop-at.at
    c.candidate-passed.result c.chunks_passed-reached.result.at keeps.content c.loop-at.invariant.passed is c.candidate-passed.ensures.passed
    c.chunks_passed-reached.ensures.passed

pub loop-at-preserved : goal.loop-at-preserved
loop-at-preserved g c =
    let content = c.args.input.now.content in
    let look = c.args.look.now in
    let piece = c.piece_from-piece.result.now in
    let same : c.loop-at.input.content ≡ content = c.loop-at.invariant.keeps.content in
    let is : piece ≡ slice_range content c.loop-at.at (c.loop-at.at + length piece) = rw (← same) c.piece_from-piece.ensures.bytes in
    let here = c.piece_from-piece.follows.lender-at-none in
    let keeps = keeps_on c.args.input.now c.loop-at.input here c.loop-at.invariant.keeps c.piece_from-piece.follows.holds-at-none in
    record {
      keeps = keeps_on c.args.input.now here c.chunks_passed-reached.new.input keeps c.chunks_passed-reached.ensures.keeps;
      from = omega (arith, c.loop-at.invariant.from, c.chunks_passed-reached.ensures.low);
      passed = placed_behind (g.L.Candidates.needles look) content here.content piece c.args.end (g.L.Candidates.offset look) c.args.from c.loop-at.at
          c.candidate-passed.result c.chunks_passed-reached.result.at keeps.content c.loop-at.invariant.passed is c.candidate-passed.ensures.passed
          c.chunks_passed-reached.ensures.passed;
    }
