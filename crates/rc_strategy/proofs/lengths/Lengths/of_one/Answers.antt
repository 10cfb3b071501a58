use Rattle.std.proofs.Common.{◌∙◌}
use Rattle.rc_pattern.specs.Meaning.{meaning}
use Rattle.rc_pattern.specs.declared.hir.Look.TheVariants.{Start, End}
use Rattle.rc_strategy.proofs.SpanLemmas.{bounds_own}
use Rattle.rc_strategy.proofs.lengths.Lengths.of_one.Goals as goal

pub returns-clause-bounds : goal.returns-clause-bounds
returns-clause-bounds c =
    let h = meaning c.args.hir.now in
    let p = c.properties_of-properties.ensures in
    bounds_own h _ c.minimum_len.result (c.minimum_len.ensures.exact h p) c.unwrap_or.ensures (c.maximum_len.ensures.exact h p)
    (c.contains.ensures ∙ c.look_set_prefix-first.ensures.exact h p Start) (c.contains-2.ensures ∙ c.look_set_suffix.ensures.exact h p End)

pub returns-clause-greatest : goal.returns-clause-greatest
returns-clause-greatest c = c.maximum_len.ensures.exact (meaning c.args.hir.now) c.properties_of-properties.ensures
