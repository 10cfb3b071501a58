use Rattle.std.proofs.Common.{◌<◌, ◌∙◌}
use Rattle.rc_dfa.proofs.SideLemmas.{ahead_is}
use Rattle.rc_dfa.proofs.sides.byte_ahead.Goals as goal

pub returns-then-at-get_slice_span-clause-value : goal.returns-then-at-get_slice_span-clause-value
returns-then-at-get_slice_span-clause-value g c =
    let s = c.args.input.now in
    let lt : c.args.at < s.slice.end = rw c.get_slice_span.ensures at c.if-at-get_slice_span.true in
    c.byte_at.ensures.value ∙ ahead_is s c.args.at c.requires lt
