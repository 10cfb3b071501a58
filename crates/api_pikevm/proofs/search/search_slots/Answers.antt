use Rattle.rc_program.specs.Places.{places_of}
use Rattle.api_pikevm.proofs.search.search_slots.Goals as goal

pub search_slots_by_kind-requires-clause-guarded : goal.search_slots_by_kind-requires-clause-guarded
search_slots_by_kind-requires-clause-guarded g c =
    let e = c.args.vm.now.built.engine in
    c.guards_of.ensures.sound (places_of e.program.places.items) e.program.terminator e.program.passes_over e.sound
