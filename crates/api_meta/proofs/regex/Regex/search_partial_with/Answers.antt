use Rattle.std.proofs.Common.{subst}
use Rattle.rc_reach.specs.Partial.{IsPartial}
use Rattle.api_meta.specs.Partials.{partial_of}
use Rattle.api_meta.specs.Views.{regex_kind, sought}
use Rattle.api_meta.proofs.Partials.{far_kept}
use Rattle.api_meta.proofs.Reaching.{kept}
use Rattle.api_meta.proofs.regex.Regex.search_partial_with.Goals as goal

pub returns-in-None-clause-told : goal.returns-in-None-clause-told
returns-in-None-clause-told g c =
    let r = c.args.self.now in
    subst (λ s. IsPartial (regex_kind r) s (partial_of c.partial_by_reach.result))
    (kept (sought r) c.args.input.now c.partial_by_needles.new.input c.partial_by_needles.ensures.keeps) c.partial_by_reach.ensures.told

pub returns-in-None-clause-far : goal.returns-in-None-clause-far
returns-in-None-clause-far g c =
    far_kept c.args.self.now c.args.input.now c.partial_by_needles.new.input c.partial_by_needles.ensures.keeps c.partial_by_reach.result c.partial_by_reach.ensures.far
