use Rattle.std.proofs.Common.{◌∙◌, ◌++◌, ap, map}
use Rattle.rc_pattern.specs.Meaning.{byte_range, char_range}
use Rattle.rc_utf8.specs.Bytes.{after, within_bytes}
use Rattle.rc_utf8.specs.Places.{sequences_of}
use Rattle.rc_program.proofs.ResultLemmas.{IfOk_to}
use Rattle.rc_utf8.proofs.SequenceLemmas.{between_sequences}
use Rattle.rc_utf8.proofs.program.sequence.add_between.Goals as goal

pub returns : goal.returns
returns c =
    IfOk_to c.add_within.result _ _ c.add_within.ensures
    (λ h. h
    ∙ ap (λ rs. sequences_of c.args.list.now.items
    ++ after (map byte_range rs) (within_bytes c.as_bytes-low.result.now c.as_bytes-high.result.now)) c.new.ensures
    ∙ ap (λ ss. sequences_of c.args.list.now.items ++ ss)
    (between_sequences c.args.least c.args.most c.later-from.result c.earlier-to.result (char_range c.args.range) c.as_bytes-low.result.now c.as_bytes-high.result.now
    c.later-from.ensures c.earlier-to.ensures c.if-from-to.false (c.as_bytes-low.ensures.value ∙ c.encode_utf8.ensures.value) (c.as_bytes-high.ensures.value ∙ c.encode_utf8-2.ensures.value)))
