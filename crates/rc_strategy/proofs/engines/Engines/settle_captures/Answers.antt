use Rattle.std.proofs.Common.{◌∙◌, ap, length}
use Rattle.std.specs.Option.{option_map}
use Rattle.rc_text.specs.Found.{Found}
use Rattle.rc_captures.proofs.CapturesLaws.{lent-written}
use Rattle.rc_pikevm_search.specs.Engine.{engine_search}
use Rattle.rc_pikevm_search.proofs.Told.{tells_by}
use Rattle.rc_strategy.proofs.ReachLemmas.{slots_by_pattern}
use Rattle.rc_strategy.proofs.engines.Engines.settle_captures.Goals as goal

pub returns-clause-told : goal.returns-clause-told
returns-clause-told g c =
    let o = c.settle_slots-settled.result.found in
    tells_by c.args.self.now.engine.kind (engine_search c.args.self.now.engine c.args.input.now) c.set_pattern.new.caps
    (option_map (λ (m : Found). m.pattern) o) _ _
    (ap (λ x. option_map (λ (m : Found). m.pattern) x) c.settle_slots-settled.ensures.answer)
    (slots_by_pattern o _ _ c.settle_slots-settled.ensures.slots)
    (c.set_pattern.ensures.pattern ∙ c.pattern_of-pattern.ensures)
    (c.set_pattern.ensures.slots ∙ lent-written c.clear.new.caps c.settle_slots-settled.new.slots (c.settle_slots-settled.ensures.long ∙ ap length c.slots_mut.ensures.value))
    c.settle_slots-settled.ensures.long
