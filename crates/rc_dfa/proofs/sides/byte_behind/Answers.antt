use Rattle.std.proofs.Common.{◌<◌, ◌∙◌}
use Rattle.rc_dfa.proofs.SideLemmas.{behind_is}
use Rattle.rc_dfa.proofs.sides.byte_behind.Goals as goal

pub returns-then-get_slice_span-at-clause-value : goal.returns-then-get_slice_span-at-clause-value
returns-then-get_slice_span-at-clause-value g c =
    let s = c.args.input.now in
    let lt : s.slice.start < c.args.at = rw c.get_slice_span.ensures at c.if-get_slice_span-at.true in
    c.byte_at.ensures.value ∙ behind_is s c.args.at c.requires.high lt
