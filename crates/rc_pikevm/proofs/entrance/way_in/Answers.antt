use Rattle.rc_pikevm.specs.Entrances.{stays_in, goes_in}
use Rattle.rc_pikevm.proofs.entrance.way_in.Goals as goal

pub ways-init : goal.ways-init
ways-init g c = record { place_in = c.requires.1.0; way = stays_in }

pub ways-preserved : goal.ways-preserved
ways-preserved g c = record {
  place_in = c.way_on-next.ensures.inside;
  way = goes_in c.ways.invariant.way c.if-contains.ensures c.way_on-next.ensures.way;
}
