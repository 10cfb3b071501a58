use Rattle.std.proofs.Common.{◌-◌, refl, arith}
use Rattle.std.proofs.lemmas.List.{length-map}
use Rattle.rc_program.specs.Places.{place_of, places_of}
use Rattle.rc_program.proofs.ClosingLemmas.{heads_more}
use Rattle.rc_program.proofs.heads.heads_of.Goals as goal

pub loop-place-preserved : goal.loop-place-preserved
loop-place-preserved c =
    heads_more (places_of c.args.places.now) (c.loop-place.place - 1) c.in_ok-flags.flags c.loop-place.tables.items _ refl c.loop-place.invariant
    (omega (arith, c.loop-place-test.true, c.loop-place.auto.place, length-map c.args.places.now place_of)) c.in_ok-flags.ensures
