use Rattle.std.proofs.Common.{ap, ◌∙◌, arith}
use Rattle.std.proofs.lemmas.List.{length-map}
use Rattle.rc_program.specs.Places.{place_of, places_of}
use Rattle.rc_pikevm.proofs.EntranceLemmas.{choice_inside}
use Rattle.rc_pikevm.proofs.LookUpLemmas.{placed}
use Rattle.rc_pikevm.proofs.which.ways_at.Goals as goal

pub returns-in-Choice-clause-inside : goal.returns-in-Choice-clause-inside
returns-in-Choice-clause-inside c =
    let items = c.args.spot.now.course.program.now.places.items in
    let size = length-map items place_of in
    let both = choice_inside (places_of items) c.args.place c.in-Choice.first c.in-Choice.second c.args.spot.now.course.program.now.runnable.closed
    (omega (arith, size, c.requires.place_in))
    (placed items c.args.place c.index.result.now c.requires.place_in c.index.ensures ∙ ap place_of c.in-Choice.is) in
    (omega (arith, size, both.0), omega (arith, size, both.1))
