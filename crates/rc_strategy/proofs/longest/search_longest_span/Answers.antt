use Rattle.std.proofs.Common.{◌≡◌, ◌∙◌, ◌≤◌, Some, MatchOption, length, ap, subst, arith}
use Rattle.std.specs.Option.{option_map}
use Rattle.rc_text.specs.Found.{Found}
use Rattle.rc_text.specs.Text.{high, low}
use Rattle.rc_text.specs.declared.types.Anchored.TheVariants.{Pattern}
use Rattle.rc_program.specs.Kinds.{answer_by}
use Rattle.rc_program.proofs.GreatestLemmas.{spelled_within}
use Rattle.rc_program.proofs.ReachLemmas.{longest_law}
use Rattle.rc_pikevm.specs.KindSlots.{slots_by}
use Rattle.rc_pikevm_search.specs.Engine.{engine_search}
use Rattle.rc_strategy.specs.Narrow.{narrowed}
use Rattle.rc_strategy.proofs.SlotLemmas.{longest_told, narrow_input}
use Rattle.rc_strategy.proofs.longest.search_longest_span.Given.{Over}
use Rattle.rc_strategy.proofs.longest.search_longest_span.Goals as goal
use Rattle.rc_strategy.proofs.longest.search_longest_span.Goals.{After-set_anchored}

-- where the match lies
within : (g : Over) (c : After-set_anchored g) →
    (low c.args.input.now ≤ c.args.found.start) × (c.args.found.start ≤ c.args.found.end) × (c.args.found.end ≤ high c.args.input.now)
within g c =
    let s = engine_search c.args.engine.now c.args.input.now in
    spelled_within s c.args.found (longest_law.spelled s c.args.found c.requires.found)

-- the search is that over the match's span
over_span : (g : Over) (c : After-set_anchored g) →
    engine_search c.args.engine.now c.set_anchored.new.self ≡ narrowed (engine_search c.args.engine.now c.args.input.now) c.args.found
over_span g c =
    let a = c.args.input.now in
    let b = c.set_range.new.self in
    let k = c.set_range.ensures in
    let w = within g c in
    let placed : c.set_anchored.new.self ≡ record b { anchored = Pattern c.args.found.pattern } =
    subst (λ p. c.set_anchored.new.self ≡ record b { anchored = Pattern p }) c.pattern.ensures.value c.set_anchored.ensures in
    ap (engine_search c.args.engine.now) placed
    ∙ narrow_input c.args.engine.now a b c.args.found w.0 w.1 w.2 k.keeps (k.start ∙ c.start.ensures.value) (k.end ∙ c.end.ensures.value) k.slice

pub set_span-requires : goal.set_span-requires
set_span-requires g c =
    let span = c.get_span-span.ensures in
    let w = within g (goal.at.set_span-requires g c).After-set_anchored in
    omega (arith, w.0, w.1, w.2, ap (λ s. s.start) span, ap (λ s. s.end) span)

pub returns-clause-slots : goal.returns-clause-slots
returns-clause-slots g c =
    let k = (goal.at.returns-clause-slots g c).After-set_anchored in
    let t = engine_search c.args.engine.now c.set_anchored.new.self in
    longest_told (engine_search c.args.engine.now c.args.input.now) t c.args.found c.find_slots.result c.args.slots.now c.find_slots.new.slots (length c.args.slots.now)
    (over_span g k) c.requires.found
    (subst (λ x. c.find_slots.result ≡ option_map (λ (f : Found). f.pattern) (answer_by x t)) c.requires.kind c.find_slots.ensures.pattern)
    (subst (λ x. MatchOption c.find_slots.result (c.find_slots.new.slots ≡ c.args.slots.now) (λ _. Some c.find_slots.new.slots ≡ slots_by x t (length c.args.slots.now)))
    c.requires.kind c.find_slots.ensures.slots)
