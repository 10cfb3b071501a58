use Rattle.rc_program.specs.Places.{places_of}
use Rattle.api_pikevm.proofs.search.is_match.Goals as goal

pub find_by_kind-requires-clause-guarded : goal.find_by_kind-requires-clause-guarded
find_by_kind-requires-clause-guarded g c =
    let e = c.args.vm.now.built.engine in
    c.guards_of.ensures.sound (places_of e.program.places.items) e.program.terminator e.program.passes_over e.sound
