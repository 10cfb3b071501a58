use Rattle.std.proofs.Common.{◌+◌, ◌∙◌, ap, arith, length, refl, slice_range, sym}
use Rattle.rc_onepass.proofs.RunLemmas.{wide_within}
use Rattle.rc_onepass.proofs.onepass.OnePass.cross.Goals as goal

pub returns-in_err-place-clause-wide : goal.returns-in_err-place-clause-wide
returns-in_err-place-clause-wide g c e s w before sound content end first le =
    let at = c.loop-at.at in
    let piece = c.piece_from-piece.result.now in
    let near = c.piece_from-piece.ensures.within in
    let low = c.loop-at.invariant.low in
    let more = c.loop-at-test.true in
    wide_within s.text.content c.args.span.start c.args.span.end at (at + length piece) low (omega (arith, near, more))
    (c.in_err-place.ensures.wide refl s w before sound
    (c.piece_from-piece.ensures.bytes ∙ ap (λ xs. slice_range xs at (at + length piece)) (c.loop-at.invariant.keeps.content ∙ sym content))
    (omega (arith, near, more, end)) (c.loop-at.invariant.stands s w before sound content end first))
