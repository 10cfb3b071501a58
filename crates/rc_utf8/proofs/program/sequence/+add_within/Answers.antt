use Rattle.std.proofs.Common.{◌∙◌, ◌++◌, ap, sym, map, get_or, refl}
use Rattle.rc_pattern.specs.Meaning.{byte_range}
use Rattle.rc_utf8.specs.Bytes.{after}
use Rattle.rc_utf8.specs.Places.{sequences_of}
use Rattle.rc_program.proofs.ResultLemmas.{IfOk_to}
use Rattle.rc_utf8.proofs.SequenceLemmas.{after_longer, within_split}
use Rattle.rc_utf8.proofs.program.sequence.+add_within.Goals as goal

pub returns : goal.returns
returns t c =
    let old = sequences_of c.args.list.now.items in
    let rs = map byte_range c.args.ranges.now in
    IfOk_to c.add_within.result _ _ c.add_within.ensures
    (λ h. h
    ∙ ap (λ ss. old ++ ss) (after_longer rs c.extended-longer.result c.extended-longer.result (get_or c.args.low.now 0 0) _ refl c.extended-longer.ensures.longer)
    ∙ ap (λ ss. old ++ after rs ss) (sym (within_split c.args.low.now c.args.high.now c.in-len1-up.len_at_least c.in-len1-up-high.len_at_least
    c.if-is_empty.ensures c.if-first-last.false c.if-are_any.ensures)))
