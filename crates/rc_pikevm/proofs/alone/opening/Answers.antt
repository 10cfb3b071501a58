use Rattle.std.proofs.Common.{◌≡◌, [], ◌∷◌, ap, ◌∙◌, arith}
use Rattle.std.proofs.lemmas.List.{length-map}
use Rattle.rc_program.specs.Program.{choice, place_at}
use Rattle.rc_program.specs.Places.{place_of, places_of}
use Rattle.rc_pikevm.specs.Moves.{seen_by}
use Rattle.rc_pikevm.proofs.EntranceLemmas.{choice_inside}
use Rattle.rc_pikevm.proofs.LookUpLemmas.{placed}
use Rattle.rc_pikevm.proofs.AloneLemmas.{opens}
use Rattle.rc_pikevm.proofs.alone.opening.Goals as goal

pub index-requires-in-Choice : goal.index-requires-in-Choice
index-requires-in-Choice g c =
    let items = c.args.course.program.now.places.items in
    let is : place_at (places_of items) c.args.place ≡ choice (c.in-Choice.first ∷ c.in-Choice.second ∷ []) =
    placed items c.args.place c.index.result.now c.requires c.index.ensures ∙ ap place_of c.in-Choice.is in
    let size = length-map items place_of in
    let both = choice_inside (places_of items) c.args.place c.in-Choice.first c.in-Choice.second c.args.course.program.now.runnable.closed
    (omega (arith, size, c.requires)) is in
    omega (arith, size, both.1, c.args.course.program.now.places.ok.0)

pub returns-in-Dead-clause-inside : goal.returns-in-Dead-clause-inside
returns-in-Dead-clause-inside g c =
    let items = c.args.course.program.now.places.items in
    let is : place_at (places_of items) c.args.place ≡ choice (c.in-Choice.first ∷ c.in-Choice.second ∷ []) =
    placed items c.args.place c.index.result.now c.requires c.index.ensures ∙ ap place_of c.in-Choice.is in
    let size = length-map items place_of in
    let both = choice_inside (places_of items) c.args.place c.in-Choice.first c.in-Choice.second c.args.course.program.now.runnable.closed
    (omega (arith, size, c.requires)) is in
    omega (arith, size, both.0)

pub returns-in-Dead-clause-way : goal.returns-in-Dead-clause-way
returns-in-Dead-clause-way g c at =
    let items = c.args.course.program.now.places.items in
    let is : place_at (places_of items) c.args.place ≡ choice (c.in-Choice.first ∷ c.in-Choice.second ∷ []) =
    placed items c.args.place c.index.result.now c.requires c.index.ensures ∙ ap place_of c.in-Choice.is in
    let size = length-map items place_of in
    let both = choice_inside (places_of items) c.args.place c.in-Choice.first c.in-Choice.second c.args.course.program.now.runnable.closed
    (omega (arith, size, c.requires)) is in
    let dead : place_at (places_of items) c.in-Choice.second ≡ choice [] =
    placed items c.in-Choice.second c.index-in-Choice.result.now (omega (arith, size, both.1)) c.index-in-Choice.ensures ∙ ap place_of c.in-Dead.is in
    opens (seen_by c.args.course g.text) at c.args.place c.in-Choice.first c.in-Choice.second is dead
