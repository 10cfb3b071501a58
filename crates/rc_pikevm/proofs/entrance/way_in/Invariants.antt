use Rattle.std.proofs.Common.{◌<◌}
use Rattle.rc_pikevm.specs.Near.{seen_from, size}
use Rattle.rc_pikevm.specs.Entrances.{IsWayIn}
use Rattle.rc_pikevm.proofs.entrance.way_in.Given as goal

abbrev pub invariant-ways : goal.invariant-ways
invariant-ways g l = record {
  place_in : l.place < size l.spot.course;
  way : IsWayIn (seen_from l.spot g.text) l.spot.at l.entered.items l.root l.place;
}

abbrev pub ghost-way_on : goal.ghost-way_on
ghost-way_on g a = g.text
