use Rattle.std.proofs.Common.{◌∙◌, ◌++◌, ap, map, get_or, refl}
use Rattle.rc_pattern.specs.Meaning.{byte_range}
use Rattle.rc_utf8.specs.Places.{sequences_of}
use Rattle.rc_program.proofs.ResultLemmas.{IfOk_to}
use Rattle.rc_utf8.proofs.SequenceLemmas.{after_longer, two_added, to_split}
use Rattle.rc_utf8.proofs.program.sequence.+add_to.Goals as goal

pub returns : goal.returns
returns t c =
    let mid = sequences_of c.add_below.new.list.items in
    let rs = map byte_range c.args.ranges.now in
    IfOk_to c.add_to.result _ _ c.add_to.ensures
    (λ h. two_added rs (sequences_of c.args.list.now.items) mid _ _ _ _ c.in_ok-add_below.ensures
    (h ∙ ap (λ ss. mid ++ ss) (after_longer rs c.extended-longer.result c.extended-longer.result (get_or c.args.high.now 0 0) _ refl c.extended-longer.ensures.longer))
    (to_split c.args.high.now c.in-len1-up.len_at_least c.if-all_are.ensures))
