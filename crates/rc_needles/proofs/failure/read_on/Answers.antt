use Rattle.std.proofs.Common.{◌-◌, arith, length, drop, refl, slice_index, ◌∙◌}
use Rattle.std.proofs.lemmas.List.{get_or-drop, get_or-take}
use Rattle.rc_needles.proofs.FailureLemmas.{goes_on_alike, goes_on_next}
use Rattle.rc_needles.proofs.ScanLemmas.{tail_length}
use Rattle.rc_needles.proofs.failure.read_on.Goals as goal

pub returns-then-len-piece-clause-goes_on : goal.returns-then-len-piece-clause-goes_on
returns-then-len-piece-clause-goes_on c =
    let needle = c.args.needle.now in
    let state = c.args.state in
    let read = c.common_len-len.ensures in
    let long = tail_length needle state in
    goes_on_alike needle state c.args.piece.now c.common_len-len.result (omega (arith, read.right, long, c.requires.within))
    (λ i l. read.alike i l ∙ get_or-take (length needle - state) (drop state needle) i 0 (omega (arith, l, read.right, long)) ∙ get_or-drop state needle i 0)

pub returns-clause-goes_on : goal.returns-clause-goes_on
returns-clause-goes_on c =
    let needle = c.args.needle.now in
    let state = c.args.state in
    let len = c.common_len-len.result in
    let piece = c.args.piece.now in
    let read = c.common_len-len.ensures in
    let long = tail_length needle state in
    goes_on_next needle state piece len (slice_index piece len) c.next_state.result
    (λ i l. read.alike i l ∙ get_or-take (length needle - state) (drop state needle) i 0 (omega (arith, l, read.right, long)) ∙ get_or-drop state needle i 0) refl
    c.next_state.ensures
