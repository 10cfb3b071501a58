use Rattle.std.proofs.Common.{◌∙◌, ap}
use Rattle.std.specs.Prelude.{is_none}
use Rattle.rc_strategy.proofs.PatternLemmas.{passes_none}
use Rattle.rc_strategy.proofs.SpanLemmas.{early_none}
use Rattle.rc_strategy.proofs.engines.Engines.find_told.Goals as goal

pub returns-in_default-clause-found : goal.returns-in_default-clause-found
returns-in_default-clause-found g c =
    let e = c.args.self.now in
    early_none e.engine e.spans c.args.input.now (is_none c.bounds.result) e.bound c.bounds.ensures.value (ap is_none c.in_default.is)
    ∙ passes_none e.engine c.args.input.now c.if-self.false
