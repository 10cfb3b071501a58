use Rattle.std.proofs.Common.{◌≡◌, ◌∙◌, ◌<◌, length, List, ap, subst, sym, refl, arith}
use Rattle.rc_text.specs.declared.types.Anchored.TheVariants.{Pattern}
use Rattle.rc_pattern.specs.Re.{Re}
use Rattle.rc_program.specs.Places.{places_of}
use Rattle.rc_program.specs.Program.{entry, program}
use Rattle.rc_program.proofs.AnswerLemmas.{answer_within}
use Rattle.rc_pikevm.specs.Roots.{StandsIn}
use Rattle.rc_pikevm_search.specs.Engine.{engine_search}
use Rattle.rc_strategy.specs.Narrow.{narrowed}
use Rattle.rc_strategy.proofs.EntryLemmas.{root_stands}
use Rattle.rc_strategy.proofs.SlotLemmas.{narrow_input, narrow_told}
use Rattle.rc_strategy.proofs.slots.search_span.Given.{Over}
use Rattle.rc_strategy.proofs.slots.search_span.Goals as goal
use Rattle.rc_strategy.proofs.slots.search_span.Goals.{After-set_anchored}

-- the search is that over the match's span
over_span : (g : Over) (c : After-set_anchored g) →
    engine_search c.args.engine.now c.set_anchored.new.self ≡ narrowed (engine_search c.args.engine.now c.args.input.now) c.args.found
over_span g c =
    let a = c.args.input.now in
    let b = c.set_range.new.self in
    let k = c.set_range.ensures in
    let w = answer_within (engine_search c.args.engine.now a) c.args.found c.requires.found in
    let placed : c.set_anchored.new.self ≡ record b { anchored = Pattern c.args.found.pattern } =
    subst (λ p. c.set_anchored.new.self ≡ record b { anchored = Pattern p }) c.pattern-2.ensures.value c.set_anchored.ensures in
    ap (engine_search c.args.engine.now) placed
    ∙ narrow_input c.args.engine.now a b c.args.found w.0 w.1 w.2 k.keeps (k.start ∙ c.start.ensures.value) (k.end ∙ c.end.ensures.value) k.slice

entered : (g : Over) (c : After-set_anchored g) (hs : List Re) → places_of c.args.engine.now.program.places.items ≡ program hs →
    c.args.found.pattern < length hs → c.entry_of-root.result ≡ entry hs c.args.found.pattern
entered g c hs e lt =
    let same : c.as_usize.result ≡ c.args.found.pattern = c.as_usize.ensures.value ∙ c.pattern.ensures.value in
    c.entry_of-root.ensures hs (ap places_of c.deref.ensures.value ∙ e) (omega (arith, same, lt)) ∙ ap (entry hs) same

stands : (g : Over) (c : After-set_anchored g) →
    (c.entry_of-root.result < length c.args.engine.now.program.places.items)
    × StandsIn (narrowed (engine_search c.args.engine.now c.args.input.now) c.args.found) c.entry_of-root.result
stands g c =
    root_stands c.args.engine.now.program.places.items (engine_search c.args.engine.now c.args.input.now) c.args.found c.entry_of-root.result c.requires.program refl
    c.requires.found (entered g c)

pub search_slots-requires-clause-enters : goal.search_slots-requires-clause-enters
search_slots-requires-clause-enters g c =
    let here = (goal.at.search_slots-requires-clause-enters g c).After-set_anchored in (
      (stands g here).0,
      subst (λ s. StandsIn s c.entry_of-root.result) (sym (over_span g here)) (stands g here).1,
    )

pub set_span-requires : goal.set_span-requires
set_span-requires g c =
    let span = c.get_span-span.ensures in
    let w = answer_within (engine_search c.args.engine.now c.args.input.now) c.args.found c.requires.found in
    omega (arith, w.0, w.1, w.2, ap (λ s. s.start) span, ap (λ s. s.end) span)

pub returns-clause-slots : goal.returns-clause-slots
returns-clause-slots g c =
    narrow_told (engine_search c.args.engine.now c.args.input.now) (engine_search c.args.engine.now c.set_anchored.new.self) c.args.found
    c.search_slots.result c.args.slots.now c.search_slots.new.slots (length c.args.slots.now)
    (over_span g (goal.at.returns-clause-slots g c).After-set_anchored) c.requires.found c.search_slots.ensures.pattern c.search_slots.ensures.slots
