use Rattle.std.proofs.Common.{◌≡◌, ◌∙◌, ◌+◌, ◌-◌, ◌<◌, length, false, slice_range, slice_index_or, subst, arith}
use Rattle.rc_table_search.specs.Ways.{IsNext}
use Rattle.rc_table_search.proofs.SpanLemmas.{next_here}
use Rattle.rc_lazy_dfa.proofs.WhichLemmas.{served}
use Rattle.rc_lazy_dfa.proofs.which.Ends.cross.Goals as goal

pub step-requires : goal.step-requires
step-requires g c =
    let o = g.o in
    let r = c.requires.1 in
    let at = c.loop-at.at in
    let to = c.run-stand.result.at in
    let piece = c.piece_on-piece.result.now in
    let read = c.run-stand.ensures.read in
    let low = read.0 in
    let some = c.if-place-piece.true in
    let short = c.piece_on-piece.ensures.short in
    let test = c.loop-at-test.true in
    let end = r.1.1.1.1 in
    let place : to - at < length piece = omega (arith, some) in
    let inside = let k = r.1.0.inside in k.high in
    let bytes = subst (λ xs. piece ≡ slice_range xs at (at + length piece)) (c.loop-at.invariant.keeps.content ∙ r.1.1.1.0.content) c.piece_on-piece.ensures.bytes in
    let next = next_here false o.seen o.bound at (to - at) piece (let high = inside in omega (arith, high)) bytes (omega (arith, short, test, end)) (omega (arith, place))
    (omega (arith, place)) in
    let same : at + (to - at) ≡ to = omega (arith, low) in (
      r.0,
      (
        r.1.0,
        (
          served o c.loop-at.self c.serve.new.self to c.run-stand.result.row c.loop-at.set c.serve.ensures.store c.serve.ensures.scratch
              (c.run-stand.ensures.underway c.loop-at.set c.loop-at.invariant.underway),
          subst (λ i. IsNext false o.seen o.bound i (slice_index_or piece (to - at) 0)) same next,
        ),
      ),
    )
