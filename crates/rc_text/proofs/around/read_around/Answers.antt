use Rattle.std.proofs.Common.{◌≡◌, ◌+◌, length, ap, ◌∙◌, arith, rules, slice_range}
use Rattle.rc_text.proofs.Ranges.{slice_range_grown}
use Rattle.rc_text.proofs.around.read_around.Goals as goal

pub loop-len-preserved : goal.loop-len-preserved
loop-len-preserved g c =
    let content = c.args.input.now.content in
    let piece = c.piece_from-piece.result.now in
    let start = c.max-start.result in
    let len = c.loop-len.len in
    let same = c.loop-len.invariant.keeps.content in
    let next : start + len + length piece ≡ start + (len + length piece) = omega arith in
    let bytes : piece ≡ slice_range content (start + len) (start + (len + length piece)) = rw (← same, ← next) c.piece_from-piece.ensures.bytes in
    record {
      keeps = search rules;
      bytes = c.append.ensures ∙ slice_range_grown content _ piece start (start + len) (start + (len + length piece)) c.loop-len.invariant.bytes bytes (omega arith) (omega arith);
      within = omega (arith, c.piece_from-piece.ensures.within, ap length same);
    }
