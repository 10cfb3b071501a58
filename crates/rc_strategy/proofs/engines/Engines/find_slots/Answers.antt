use Rattle.std.proofs.Common.{ap, length}
use Rattle.std.specs.Prelude.{is_none}
use Rattle.std.specs.Option.{option_map}
use Rattle.rc_text.specs.Found.{Found}
use Rattle.rc_strategy.proofs.CacheLemmas.{same_in}
use Rattle.rc_strategy.proofs.SpanLemmas.{early_none}
use Rattle.rc_strategy.proofs.engines.Engines.find_slots.Goals as goal

pub returns-in_default-clause-pattern : goal.returns-in_default-clause-pattern
returns-in_default-clause-pattern g c =
    let e = c.args.self.now in
    ap (λ o. option_map (λ (m : Found). m.pattern) o) (early_none e.engine e.spans c.args.input.now (is_none c.bounds.result) e.bound c.bounds.ensures.value (ap is_none c.in_default.is))

pub returns-in_default-clause-cache : goal.returns-in_default-clause-cache
returns-in_default-clause-cache g c = same_in c.args.self.now (length c.args.slots.now) c.args.cache.now c.requires.made
