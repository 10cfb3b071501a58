use Rattle.rc_program.specs.Places.{places_of}
use Rattle.rc_pikevm_search.proofs.engine.Engine.find_slots.Goals as goal

pub search_slots_by_kind-requires-clause-guarded : goal.search_slots_by_kind-requires-clause-guarded
search_slots_by_kind-requires-clause-guarded g c =
    c.guards_of.ensures.sound (places_of c.args.self.now.program.places.items) c.args.self.now.program.terminator c.args.self.now.program.passes_over c.args.self.now.sound
