use Rattle.std.proofs.Common.{length, ap, arith, refl}
use Rattle.rc_pikevm_search.specs.Engine.{engine_search}
use Rattle.rc_strategy.specs.Lengths.{is_leftmost}
use Rattle.rc_strategy.proofs.SlotLemmas.{search_inside, span_all, span_told, walk_told}
use Rattle.rc_strategy.proofs.engines.Engines.fill_slots.Goals as goal
use Rattle.rc_strategy.proofs.engines.Engines.fill_slots.Goals.{in_default-via-in-LeftmostFirst+else-asked, in_default-via-in-LeftmostLongest+else-asked-2, in_default-via-in_default}

pub returns-else-not-tell_slots-clause-slots : goal.returns-else-not-tell_slots-clause-slots
returns-else-not-tell_slots-clause-slots g c =
    walk_told c.args.self.now.engine.kind (engine_search c.args.self.now.engine c.args.input.now) c.args.found (length c.args.slots.now) c.tell_slots.new.slots
    (ap is_leftmost c.in-LeftmostFirst.is) (search_inside c.args.self.now.engine c.args.input.now) c.requires.found
    (λ c' over. c.tell_slots.ensures.slots c.if-not-tell_slots.false (engine_search c.args.self.now.engine c.args.input.now) c' c.args.self.now.programmed c.args.self.now.single refl over)

pub returns-else-not-tell_slots-2-clause-slots : goal.returns-else-not-tell_slots-2-clause-slots
returns-else-not-tell_slots-2-clause-slots g c =
    let told = c.tell_slots-in-LeftmostLongest in
    walk_told c.args.self.now.engine.kind (engine_search c.args.self.now.engine c.args.input.now) c.args.found (length c.args.slots.now) told.new.slots
    (ap is_leftmost c.in-LeftmostLongest.is) (search_inside c.args.self.now.engine c.args.input.now) c.requires.found
    (λ c' over. told.ensures.slots c.if-not-tell_slots-2.false (engine_search c.args.self.now.engine c.args.input.now) c' c.args.self.now.programmed c.args.self.now.single refl over)

pub returns-in_default-clause-slots : goal.returns-in_default-clause-slots
returns-in_default-clause-slots g c =
    let e = c.args.self.now in
    let s = engine_search e.engine c.args.input.now in
    let n = length c.args.slots.now in
    let most = c.saturating_mul.ensures in
    elim c.in_default.branch [
      | in_default-via-in-LeftmostFirst+else-asked w ↦ span_told e.engine.kind s c.args.found n e.patterns c.put_span.new.slots (ap is_leftmost w.in-LeftmostFirst.is)
          e.numbered (let few = w.if-asked.false in omega (arith, few, most)) c.requires.found c.put_span.ensures
      | in_default-via-in-LeftmostLongest+else-asked-2 w ↦ span_told e.engine.kind s c.args.found n e.patterns c.put_span.new.slots
          (ap is_leftmost w.in-LeftmostLongest.is) e.numbered (let few = w.if-asked-2.false in omega (arith, few, most)) c.requires.found c.put_span.ensures
      | in_default-via-in_default w ↦ span_all e.engine.kind s c.args.found n c.put_span.new.slots w.in_default.is c.requires.found c.put_span.ensures
    ]
