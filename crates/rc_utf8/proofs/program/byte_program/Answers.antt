use Rattle.std.proofs.Common.{◌∙◌, arith, length}
use Rattle.rc_utf8.proofs.AddLemmas.{turns, weighs}
use Rattle.rc_utf8.proofs.program.byte_program.Goals as goal

pub loop-i-preserved : goal.loop-i-preserved
loop-i-preserved c =
    let t = turns (length c.args.program.now) c.loop-i.i c.args.program.now c.index-program-i.result c.loop-i.places.items c.add_place.new.places.items
    c.loop-i.blocks c.add_place.new.blocks c.loop-i-test.true c.index-program-i.is c.in_ok-add_place.ensures.more c.in_ok-add_place.ensures.behind in
    let w = weighs c.args.program.now c.loop-i.i c.index-program-i.result c.loop-i-test.true c.index-program-i.is in
    record {
      long = omega (arith, w, c.loop-i.invariant.long, c.in_ok-add_place.ensures.long);
      places = t.places_turn ∙ c.loop-i.invariant.places;
      blocks = t.blocks_turn ∙ c.loop-i.invariant.blocks;
    }
