use Rattle.std.proofs.Common.{◌≡◌, ◌<◌, [], ◌∷◌, inl, inr, ap, ◌∙◌, arith}
use Rattle.std.proofs.lemmas.List.{length-map}
use Rattle.rc_program.specs.Program.{choice, place_at}
use Rattle.rc_program.specs.Places.{place_of, places_of}
use Rattle.rc_pikevm.specs.Near.{size}
use Rattle.rc_pikevm.proofs.EntranceLemmas.{choice_inside}
use Rattle.rc_pikevm.proofs.LookUpLemmas.{placed}
use Rattle.rc_pikevm.proofs.entrance.way_on.Given.{Over}
use Rattle.rc_pikevm.proofs.entrance.way_on.Goals as goal
use Rattle.rc_pikevm.proofs.entrance.way_on.Goals.{In-Choice}

-- the place is that choice
choice_is : (g : Over) (c : In-Choice g) →
    place_at (places_of c.args.spot.now.course.program.now.places.items) c.args.place ≡ choice (c.in-Choice.first ∷ c.in-Choice.second ∷ [])
choice_is g c =
    placed c.args.spot.now.course.program.now.places.items c.args.place c.index.result.now c.requires.1 c.index.ensures ∙ ap place_of c.in-Choice.is

-- both ways lead to places of the program
both_in : (g : Over) (c : In-Choice g) → (c.in-Choice.first < size c.args.spot.now.course) × (c.in-Choice.second < size c.args.spot.now.course)
both_in g c =
    let items = c.args.spot.now.course.program.now.places.items in
    let size = length-map items place_of in
    let both = choice_inside (places_of items) c.args.place c.in-Choice.first c.in-Choice.second c.args.spot.now.course.program.now.runnable.closed
    (omega (arith, size, c.requires.1)) (choice_is g c) in
    (omega (arith, size, both.0), omega (arith, size, both.1))

pub is_shut-requires : goal.is_shut-requires
is_shut-requires g c = (c.requires.0, (both_in g (goal.at.is_shut-requires g c).In-Choice).1)

pub is_shut-requires-in-Choice : goal.is_shut-requires-in-Choice
is_shut-requires-in-Choice g c = (c.requires.0, (both_in g (goal.at.is_shut-requires-in-Choice g c).In-Choice).0)

pub returns-then-is_shut-clause-inside : goal.returns-then-is_shut-clause-inside
returns-then-is_shut-clause-inside g c = (both_in g (goal.at.returns-then-is_shut-clause-inside g c).In-Choice).0

pub returns-then-is_shut-clause-way : goal.returns-then-is_shut-clause-way
returns-then-is_shut-clause-way g c =
    inr (c.in-Choice.second, inl (choice_is g (goal.at.returns-then-is_shut-clause-way g c).In-Choice), c.is_shut.ensures c.if-is_shut.true)

pub returns-then-is_shut-2-clause-inside : goal.returns-then-is_shut-2-clause-inside
returns-then-is_shut-2-clause-inside g c = (both_in g (goal.at.returns-then-is_shut-2-clause-inside g c).In-Choice).1

pub returns-then-is_shut-2-clause-way : goal.returns-then-is_shut-2-clause-way
returns-then-is_shut-2-clause-way g c =
    inr (
      c.in-Choice.first,
      inr (choice_is g (goal.at.returns-then-is_shut-2-clause-way g c).In-Choice),
      c.is_shut-in-Choice.ensures c.if-is_shut-2.true,
    )
