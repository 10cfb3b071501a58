use Rattle.std.proofs.Common.{◌∙◌, ◌++◌, ap, map, refl}
use Rattle.rc_pattern.specs.Meaning.{byte_range}
use Rattle.rc_utf8.specs.Bytes.{from_bytes, after}
use Rattle.rc_utf8.specs.Places.{sequences_of}
use Rattle.rc_program.proofs.ResultLemmas.{IfOk_to}
use Rattle.rc_utf8.proofs.SequenceLemmas.{after_longer, two_added, both_split}
use Rattle.rc_utf8.proofs.program.sequence.add_both.Goals as goal

pub returns : goal.returns
returns c =
    let old = sequences_of c.args.list.now.items in
    let mid = sequences_of c.add_from-2.new.list.items in
    let rs = map byte_range c.args.ranges.now in
    IfOk_to c.add_to.result _ _ c.add_to.ensures
    (λ h. two_added rs old mid _ _ _ _
    (c.in_ok-add_from.ensures ∙ ap (λ n. old ++ after rs (from_bytes c.args.low.now n)) c.saturating_sub.ensures)
    (h ∙ ap (λ ss. mid ++ ss) (after_longer rs c.extended-longer.result c.extended-longer.result c.args.last _ refl c.extended-longer.ensures.longer))
    (both_split _ c.args.low.now c.args.last c.args.high.now c.if-reach_all_to.ensures))
