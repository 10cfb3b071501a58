use Rattle.std.proofs.Common.{◌∙◌, ◌++◌, ap, map, get_or, refl}
use Rattle.rc_pattern.specs.Meaning.{byte_range}
use Rattle.rc_utf8.specs.Places.{sequences_of}
use Rattle.rc_program.proofs.ResultLemmas.{IfOk_to}
use Rattle.rc_utf8.proofs.SequenceLemmas.{after_longer, two_added, from_split}
use Rattle.rc_utf8.proofs.program.sequence.+add_from.Goals as goal

pub returns : goal.returns
returns t c =
    let old = sequences_of c.args.list.now.items in
    let rs = map byte_range c.args.ranges.now in
    IfOk_to c.add_above.result _ _ c.add_above.ensures
    (λ h. two_added rs old (sequences_of c.add_from.new.list.items) _ _ _ _
    (c.in_ok-add_from.ensures ∙ ap (λ ss. old ++ ss) (after_longer rs c.extended-longer.result c.extended-longer.result (get_or c.args.low.now 0 0) _ refl c.extended-longer.ensures.longer))
    h (from_split c.args.low.now c.args.last c.in-len1-up.len_at_least c.if-reach_all_from.ensures))
